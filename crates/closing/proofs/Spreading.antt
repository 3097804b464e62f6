-- Spreading, place by place.
use Rattle.std.proofs.Common.{◌≡◌, ℕ, ◌+◌, ◌-◌, ◌<◌, ◌≤◌, false, ◌||◌, ltb, ◌⊎◌, List, ◌++◌, length, get_or, take, drop, set, Some, None, Ok, Err, sym, refl, ap, ◌∙◌, subst, ⊎_elim, arith, length-set, length-drop, length-take-le}
use Rattle.std.proofs.lemmas.List.{length-append, get_or_append_left, get_or-append_right, get_or-drop, get_or-set_same, get_or-set_other}
use Rattle.std.proofs.lemmas.Bool.{cases_eq, cond-true, cond-false, lt-ltb, le-ltb, or_left, or_right, or_from, not-false, ltb-true}
use Rattle.mesh.specs.Smallest.{smallest}
use Rattle.mesh.proofs.Smallest.{none_below}
use Rattle.closing.specs.declared.fault.SkinFault.TheVariants.{Short, Stray}
use Rattle.closing.specs.Sheet.{darts, stray}
use Rattle.closing.specs.Spread.{told, Spread, Alike}
use Rattle.closing.proofs.Verdicts.{declined, passed}

pub spread_more : {X : Type 0} (h : ℕ) (cs : List ℕ) (ps old new : List X) (x : X) → h < length old → Spread h cs ps old new → ((d : X) → x ≡ get_or ps (get_or cs h 0) d) → Spread (h + 1) cs ps old (set new h x)
spread_more h cs ps old new x l s e =
    let n : length new ≡ length old = s.long in
    record {
      long = length-set new h x ∙ n;
      front = λ k d u. ⊎_elim
          (λ (q : k ≡ h). ap (λ (m : ℕ). get_or (set new h x) m d) q ∙ get_or-set_same new h x d (omega arith) ∙ e d ∙ ap (λ (m : ℕ). get_or ps (get_or cs m 0) d) (sym q))
          (λ ne. get_or-set_other new h k x d ne ∙ s.front k d (omega arith)) (cases_eq k h);
      rest = λ k d u. get_or-set_other new h k x d (omega arith) ∙ s.rest k d (omega arith);
    }

-- what is spread over the first n places of a table is spread over the table
pub spread_front : {X : Type 0} (n : ℕ) (cs : List ℕ) (ps old new : List X) → n ≤ length old → Spread n cs ps (take n old) new → Spread n cs ps old (new ++ drop n old)
spread_front n cs ps old new l s =
    let t : length new ≡ n = s.long ∙ length-take-le n old l in
    let r : length (drop n old) ≡ length old - n = length-drop n old in
    record {
      long = length-append new (drop n old) ∙ omega arith;
      front = λ k d u. get_or_append_left new (drop n old) d k (omega arith) ∙ s.front k d u;
      rest = λ k d u. get_or-append_right new (drop n old) n k d t u ∙ get_or-drop n old (k - n) d ∙ ap (λ (m : ℕ). get_or old m d) (let q : n + (k - n) ≡ k = omega arith in q);
    }

-- darts of one vertex ring have the same corner
pub alike : {X : Type 0} (n : ℕ) (cs : List ℕ) (ps old new : List X) → Spread n cs ps old new → Alike n cs new
alike n cs ps old new a s m e f k g h d l u r =
    let into : (x : ℕ) → x < n → x < darts s = λ x b. subst (λ (y : ℕ). x < y) (sym f) b in
    let q : get_or cs g 0 ≡ get_or cs h 0 = subst (λ (xs : List ℕ). get_or xs g 0 ≡ get_or xs h 0) e (k.vertex_ring g h (into g l) (into h u) r) in
    a.front g d l ∙ ap (λ (v : ℕ). get_or ps v d) q ∙ sym (a.front h d u)

pub known : (n p : ℕ) (cs : List ℕ) → None ≡ smallest n (stray p cs) → (h : ℕ) → h < n → get_or cs h 0 < p
known n p cs e h l = ltb-true (get_or cs h 0) p (not-false _ (none_below (stray p cs) n (sym e) h l))

pub too_short : (n : ℕ) (cs : List ℕ) (p m : ℕ) → (length cs < n) ⊎ (m < n) → Err (Short n) ≡ told n cs p m
unfolding told
too_short n cs p m w = sym (cond-true (ltb (length cs) n || ltb m n) _ _ (⊎_elim (λ l. or_left (ltb (length cs) n) (ltb m n) (lt-ltb _ _ l)) (λ l. or_right (ltb (length cs) n) (ltb m n) (lt-ltb _ _ l)) w))

module _ (n : ℕ) (cs : List ℕ) (p m : ℕ) (a : n ≤ length cs) (b : n ≤ m) where
  room : (ltb (length cs) n || ltb m n) ≡ false
  room = or_from (ltb (length cs) n) (ltb m n) (le-ltb _ _ a) (le-ltb _ _ b)

  pub strays : (h : ℕ) → Some h ≡ smallest n (stray p cs) → Err (Stray h) ≡ told n cs p m
  unfolding told
  strays h e = declined Stray _ _ h e ∙ sym (cond-false (ltb (length cs) n || ltb m n) _ _ room)

  pub goes : None ≡ smallest n (stray p cs) → Ok tt ≡ told n cs p m
  unfolding told
  goes e = passed Stray _ _ _ e refl ∙ sym (cond-false (ltb (length cs) n || ltb m n) _ _ room)
