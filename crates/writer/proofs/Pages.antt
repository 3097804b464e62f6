-- Texts put on a page one after the other.
use Rattle.std.proofs.Common.{◌≡◌, ℕ, ◌+◌, List, [], ◌∷◌, ◌++◌, length, get_or, take, drop, sym, ap, ◌∙◌, subst, take-append-drop, arith}
use Rattle.std.specs.List.{flat_map}
use Rattle.std.proofs.lemmas.Grind.{flat_map-append}
use Rattle.std.proofs.lemmas.List.{flat_map_more, take_more}
use Rattle.writer.specs.declared.page.Page.{Page}
use Rattle.writer.specs.Buffer.{written, Put}
use Rattle.writer.specs.Pages.{HasRoom, Grows}
use Rattle.writer.proofs.Turns.{Came}
use Rattle.writer.proofs.Writes.{and_then, first_room, next_room}

-- one text and then the other
pub grows_on : {w v : List ℕ} {a b c : Page} → Grows w a b → Grows v b c → Grows (w ++ v) a c
grows_on x y = record { lent = y.lent ∙ x.lent; put = and_then x.put y.put }

-- room for what comes after a text that was put
pub room_next : {w v : List ℕ} {a b : Page} → Grows w a b → HasRoom (w ++ v) a → HasRoom v b
room_next x r = next_room x.put r

-- what the buffer has in the end, from a page on which nothing was written
pub grown : {w v was is : List ℕ} {a b : Page} → is ≡ b.buf.now → Grows w a b → a.at ≡ 0 → a.buf.now ≡ was → w ≡ v → Put 0 b.at v was is
grown {w} {v} {was} {is} {a} {b} e g z q s =
    record {
      place = omega (arith, g.put.place, ap length s);
      inside = omega (arith, g.put.inside, ap length q);
      text = e ∙ g.put.text ∙ ap (λ k. written k w a.buf.now) z ∙ ap (written 0 w) q ∙ ap (λ x. written 0 x was) s;
    }

-- a text that is put item by item
module _ (T : ℕ → List ℕ) where
  pub items_put : {a b c : Page} (xs : List ℕ) (x : ℕ) → Grows (flat_map T xs) a b → Grows (T x) b c → Grows (flat_map T (xs ++ x ∷ [])) a c
  items_put {a} {b} {c} xs x g h = subst (λ w. Grows w a c) (flat_map_more T [] xs x) (grows_on g h)

  -- the next item x of all has room where xs came before it
  pub items_room : {a b : Page} (all xs : List ℕ) (x : ℕ) (v : List ℕ) → Came all xs x →
      HasRoom (flat_map T all ++ v) a → Grows (flat_map T xs) a b → HasRoom (T x) b
  items_room {a} {b} all xs x v c r g =
      let k = length xs in
      let more : take (k + 1) all ≡ xs ++ x ∷ [] = take_more all k x c.inside ∙ ap (λ y. y ++ get_or all k x ∷ []) (sym c.so_far) ∙ ap (λ y. xs ++ y ∷ []) (sym c.here) in
      let cut : all ≡ (xs ++ x ∷ []) ++ drop (k + 1) all = sym (take-append-drop (k + 1) all) ∙ ap (λ y. y ++ drop (k + 1) all) more in
      let w : flat_map T all ≡ flat_map T (xs ++ x ∷ []) ++ flat_map T (drop (k + 1) all) = ap (flat_map T) cut ∙ flat_map-append T (xs ++ x ∷ []) (drop (k + 1) all) in
      let z : flat_map T (xs ++ x ∷ []) ≡ flat_map T xs ++ T x = sym (flat_map_more T [] xs x) in
      let s : HasRoom (((flat_map T xs ++ T x) ++ flat_map T (drop (k + 1) all)) ++ v) a = subst (λ y. HasRoom ((y ++ flat_map T (drop (k + 1) all)) ++ v) a) z (subst (λ y. HasRoom (y ++ v) a) w r) in
      room_next g (first_room _ (first_room v s))
