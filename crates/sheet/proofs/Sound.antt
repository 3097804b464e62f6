-- What a form accepts is one of its spellings.
use Rattle.std.proofs.Common.{◌≡◌, ℕ, ◌+◌, ◌-◌, ◌^◌, ◌<◌, ◌≤◌, Bool, true, false, cond, leb, List, [], ◌∷◌, ◌++◌, length, take, drop, ℤ, Ok, Err, decimal, Result, sym, refl, ap, ◌∙◌, subst, append_assoc, arith, length-append}
use Rattle.std.specs.Fmt.{signed_decimal}
use Rattle.std.specs.Str.{bytes_eq}
use Rattle.std.specs.List.{prefix_len}
use Rattle.std.proofs.lemmas.Slice.Eq.{bytes_eq-Decides}
use Rattle.std.proofs.lemmas.List.{drop-drop, take-append-drop, length-take-le, drop_all, nil_from_length}
use Rattle.std.proofs.lemmas.List.Sums.{prefix_len-le-length}
use Rattle.std.proofs.lemmas.Bool.{leb-true}
use Rattle.sheet.specs.declared.fault.TextFault.{TextFault}
use Rattle.sheet.specs.declared.fault.TextFault.TheVariants as fault
use Rattle.sheet.specs.Number.{natural_of, coordinate_of}
use Rattle.sheet.specs.Token.{plain, front}
use Rattle.sheet.specs.Form.{Form, gives, token, natural, coordinate, end, judge, then, token_at, natural_at, coordinate_at, end_at, placed}
use Rattle.sheet.proofs.Grammar.{Spelled, s_gives, s_token, s_natural, s_coordinate, s_end, Small, Reads}
use Rattle.sheet.proofs.Laws.{number_law}

never : {A B : Type 0} (x : A) (y : B) → ◌≡◌ {A = Result B A} (Err x) (Ok y) → ⊥
never x y e = let z : ◌≡◌ {A = ℕ} 0 1 = cc in omega arith

ok_is : {A E : Type 0} (x y : A) → ◌≡◌ {A = Result A E} (Ok x) (Ok y) → x ≡ y
ok_is x y e = cc

-- a text is its first token and the rest
pub front_part : (bs : List ℕ) → front bs ++ drop (length (front bs)) bs ≡ bs
front_part [] = refl
front_part (b ∷ bs) = go (plain b)
  where
    k : ℕ
    k = prefix_len plain bs

    long : length (take k bs) ≡ k
    long = length-take-le k bs (prefix_len-le-length plain bs)

    go : (t : Bool) → cond t (b ∷ take k bs) (b ∷ []) ++ drop (length (cond t (b ∷ take k bs) (b ∷ []))) (b ∷ bs) ≡ b ∷ bs
    go true = ap (λ n. b ∷ (take k bs ++ drop n bs)) long ∙ ap (λ l. b ∷ l) (take-append-drop k bs)
    go false = refl

pub joined : (text : List ℕ) (p r q : ℕ) (w bs : List ℕ) → front (drop p text) ≡ w → r ≡ p + length w → drop r text ≡ bs ++ drop q text → drop p text ≡ (w ++ bs) ++ drop q text
joined text p r q w bs e h i =
    sym (front_part (drop p text))
    ∙ ap (λ x. x ++ drop (length x) (drop p text)) e
    ∙ ap (λ x. w ++ x) (drop-drop (length w) p text ∙ ap (λ n. drop n text) (sym h) ∙ i)
    ∙ sym (append_assoc w bs (drop q text))

pub token_sound : (w text : List ℕ) (p q : ℕ) → token_at w text p ≡ Ok q → (front (drop p text) ≡ w) × (q ≡ p + length w)
token_sound w text p q e = go (bytes_eq w (front (drop p text))) refl e
  where
    go : (t : Bool) → bytes_eq w (front (drop p text)) ≡ t → ◌≡◌ {A = Result ℕ TextFault} (cond t (Ok (p + length w)) (Err (fault.Form p))) (Ok q) → (front (drop p text) ≡ w) × (q ≡ p + length w)
    go true s e = (sym ((bytes_eq-Decides w (front (drop p text))).0 s), sym (ok_is _ _ e))
    go false s e = absurd (never _ _ e)

-- what a number's place is
pub placed_sound : {A : Type 0} (m : ℕ) (x : Result A TextFault) (a : A) (q : ℕ) → then x (placed m) ≡ Ok (a, q) → (x ≡ Ok a) × (q ≡ m)
placed_sound m (Ok b) a q e = let s = ok_is _ _ e in (ap (λ r. Ok r.0) s, sym (ap (λ r. r.1) s))
placed_sound m (Err f) a q e = absurd (never _ _ e)

pub end_sound : (text : List ℕ) (p q : ℕ) → end_at text p ≡ Ok q → (length text ≤ p) × (q ≡ p)
end_sound text p q e = go (leb (length text) p) refl e
  where
    go : (t : Bool) → leb (length text) p ≡ t → ◌≡◌ {A = Result ℕ TextFault} (cond t (Ok p) (Err (fault.Form p))) (Ok q) → (length text ≤ p) × (q ≡ p)
    go true s e = (leb-true (length text) p s, sym (ok_is _ _ e))
    go false s e = absurd (never _ _ e)

module _ {A : Type 0} (text : List ℕ) (p : ℕ) (a : A) (q : ℕ) where
  token_case : (w : List ℕ) (f : Form A) (x : Result ℕ TextFault) → token_at w text p ≡ x → then x (λ r. judge f text r) ≡ Ok (a, q) → ((r : ℕ) → judge f text r ≡ Ok (a, q) → Reads f a text r q) → Reads (token w f) a text p q
  token_case w f (Ok r) t e ih =
      let i = ih r e in
      let s = token_sound w text p r t in
      record {
        bs = w ++ i.bs;
        spelled = s_token i.spelled;
        part = joined text p r q w i.bs s.0 s.1 i.part;
        long = simp length-append (omega (arith, i.long, s.1));
      }
  token_case w f (Err x) t e ih = absurd (never _ _ e)

  natural_case : (low high : ℕ) → high < 2 ^ 32 - 1 → (k : ℕ → Form A) (x : Result (ℕ × ℕ) TextFault) → natural_at low high text p ≡ x → then x (λ r. judge (k r.0) text r.1) ≡ Ok (a, q) → ((n r : ℕ) → judge (k n) text r ≡ Ok (a, q) → Reads (k n) a text r q) → Reads (natural low high k) a text p q
  natural_case low high h k (Ok r) t e ih =
      let i = ih r.0 r.1 e in
      let s = placed_sound (p + length (front (drop p text))) (natural_of low high p (front (drop p text))) r.0 r.1 t in
      let l = ((number_law p).1 low high h).sound (front (drop p text)) r.0 s.0 in
      let m : r.1 ≡ p + length (decimal r.0) = s.1 ∙ ap (λ w. p + length w) l.0 in
      record {
        bs = decimal r.0 ++ i.bs;
        spelled = s_natural r.0 l.1.0 l.1.1 i.spelled;
        part = joined text p r.1 q (decimal r.0) i.bs l.0 m i.part;
        long = simp length-append (omega (arith, i.long, m));
      }
  natural_case low high h k (Err x) t e ih = absurd (never _ _ e)

  coordinate_case : (k : ℤ → Form A) (x : Result (ℤ × ℕ) TextFault) → coordinate_at text p ≡ x → then x (λ r. judge (k r.0) text r.1) ≡ Ok (a, q) → ((z : ℤ) (r : ℕ) → judge (k z) text r ≡ Ok (a, q) → Reads (k z) a text r q) → Reads (coordinate k) a text p q
  coordinate_case k (Ok r) t e ih =
      let i = ih r.0 r.1 e in
      let s = placed_sound (p + length (front (drop p text))) (coordinate_of p (front (drop p text))) r.0 r.1 t in
      let l = (number_law p).0.sound (front (drop p text)) r.0 s.0 in
      let m : r.1 ≡ p + length (signed_decimal r.0) = s.1 ∙ ap (λ w. p + length w) l.0 in
      record {
        bs = signed_decimal r.0 ++ i.bs;
        spelled = s_coordinate r.0 l.1 i.spelled;
        part = joined text p r.1 q (signed_decimal r.0) i.bs l.0 m i.part;
        long = simp length-append (omega (arith, i.long, m));
      }
  coordinate_case k (Err x) t e ih = absurd (never _ _ e)

  end_case : (f : Form A) (x : Result ℕ TextFault) → end_at text p ≡ x → then x (λ r. judge f text r) ≡ Ok (a, q) → ((r : ℕ) → judge f text r ≡ Ok (a, q) → Reads f a text r q) → Reads (end f) a text p q
  end_case f (Ok r) t e ih =
      let i = ih r e in
      let s = end_sound text p r t in
      let l : length (i.bs ++ drop q text) ≡ 0 = ap length (sym i.part ∙ drop_all r text (omega arith)) in
      let none : i.bs ≡ [] = nil_from_length i.bs (omega (arith, length-append i.bs (drop q text))) in
      record {
        bs = [];
        spelled = s_end (subst (λ x. Spelled f a x) none i.spelled);
        part = ap (λ n. drop n text) (sym s.1) ∙ i.part ∙ ap (λ x. x ++ drop q text) none;
        long = omega (arith, i.long, ap length none, s.1);
      }
  end_case f (Err x) t e ih = absurd (never _ _ e)

pub sound : {A : Type 0} (f : Form A) → Small f → (text : List ℕ) (p : ℕ) (a : A) (q : ℕ) → judge f text p ≡ Ok (a, q) → Reads f a text p q
sound (gives b) s text p a q e =
    let o = ok_is _ _ e in
    record {
      bs = [];
      spelled = subst (λ x. Spelled (gives b) x []) (ap (λ r. r.0) o) s_gives;
      part = ap (λ n. drop n text) (ap (λ r. r.1) o);
      long = omega (arith, ap (λ r. r.1) o);
    }
sound (token w f) s text p a q e = token_case text p a q w f (token_at w text p) refl e (λ r h. sound f s text r a q h)
sound (natural low high k) s text p a q e = natural_case text p a q low high s.0 k (natural_at low high text p) refl e (λ n r h. sound (k n) (s.1 n) text r a q h)
sound (coordinate k) s text p a q e = coordinate_case text p a q k (coordinate_at text p) refl e (λ z r h. sound (k z) (s z) text r a q h)
sound (end f) s text p a q e = end_case text p a q f (end_at text p) refl e (λ r h. sound f s text r a q h)
