-- A form that declines a text names the place of its first wrong token.
use Rattle.std.proofs.Common.{◌≡◌, ℕ, zero, suc, ◌+◌, ◌-◌, ◌^◌, ◌<◌, ◌≤◌, Bool, true, false, cond, eqb, ltb, leb, ◌⊎◌, List, [], ◌∷◌, ◌++◌, length, get_or, take, drop, ℤ, pos, negsuc, Some, None, Ok, Err, decimal, Option, Result, sym, refl, ap, ◌∙◌, subst, subst₂, inl, inr, ⊎_elim, append_assoc, add-zero, one-add, arith, length-append, length-drop}
use Rattle.std.specs.Fmt.{signed_decimal}
use Rattle.std.specs.Str.{bytes_eq}
use Rattle.std.specs.List.{prefix_len, AllByRecursion}
use Rattle.std.proofs.lemmas.Slice.Eq.{bytes_eq-Decides}
use Rattle.std.proofs.lemmas.List.{append_cancel_left, drop-drop, length-take-le}
use Rattle.std.proofs.lemmas.List.Sums.{prefix_len-le-length}
use Rattle.std.proofs.lemmas.Bool.{le-leb, eqb-true}
use Rattle.sheet.specs.declared.fault.TextFault.{TextFault}
use Rattle.sheet.specs.declared.fault.TextFault.TheVariants as fault
use Rattle.sheet.specs.Number as number
use Rattle.point.specs.Range.{InRange}
use Rattle.sheet.specs.Number.{natural_of, coordinate_of, limited, bounded, SameSign, Alike}
use Rattle.sheet.specs.Token.{plain, front, numeric}
use Rattle.sheet.specs.Form.{Form, gives, token, natural, coordinate, end, judge, then, token_at, natural_at, coordinate_at, placed, after, times}
use Rattle.sheet.proofs.Grammar.{Spelled, s_gives, s_token, s_natural, s_coordinate, s_end, Run, Parted}
use Rattle.sheet.proofs.Laws.{number_law, integer_of, integer_decimal, integer_natural}
use Rattle.sheet.proofs.Steps.{integer_none}
use Rattle.sheet.proofs.Forms.{never, ok_is}
use Rattle.sheet.proofs.Sound.{joined, token_sound, placed_sound}
use Rattle.sheet.proofs.Complete.{Clear, front_run_is, front_mark, breaks_clear, run_decimal, run_signed}
use Rattle.sheet.proofs.Spellings.{Endless, endless_times}

abbrev pub fault_place : TextFault → ℕ
fault_place (fault.Short n) = n
fault_place (fault.Form n) = n
fault_place (fault.Limit n) = n

pub err_is : {A E : Type 0} (x y : E) → ◌≡◌ {A = Result A E} (Err x) (Err y) → x ≡ y
err_is x y e = cc

-- a number stands where one of its sign may stand, or not
abbrev pub Sort : {A : Type 0} → Form A → List ℕ → List ℕ → TextFault → Type 0
Sort {A} f before text (fault.Short q) = ⊥
Sort {A} f before text (fault.Form q) = (a : A) (rest : List ℕ) → Spelled f a (before ++ rest) → Alike (front rest) (front (drop q text)) → ⊥
Sort {A} f before text (fault.Limit q) = (a : A) × (rest : List ℕ) × Spelled f a (before ++ rest) × Alike (front rest) (front (drop q text))

-- as the sheet's law has it, for any form
pub record Wrong {A : Type 0} (f : Form A) (text : List ℕ) (p : ℕ) (e : TextFault) : Type 0 where
  pub before : List ℕ
  pub cut : drop p text ≡ before ++ drop (fault_place e) text
  pub far : fault_place e ≡ p + length before
  pub begun : (a : A) × (rest : List ℕ) × Spelled f a (before ++ rest)
  pub wrong : (a : A) (rest : List ℕ) → Spelled f a (before ++ rest) → front rest ≡ front (drop (fault_place e) text) → ⊥
  pub sort : Sort f before text e

-- whatever was said so far, the form can be completed
unfoldable pub Last : {A : Type 0} → Form A → Type 0
Last (gives a) = Unit {0}
Last (token w f) = ⊥
Last (natural low high k) = ⊥
Last (coordinate k) = ⊥
Last (end f) = ⊥

unfoldable pub Fillable : {A : Type 0} → Form A → Type 0
Fillable (gives a) = Unit {0}
Fillable (token w f) = (number.integer w ≡ None) × Fillable f
Fillable (natural low high k) = (low ≤ high) × ((n : ℕ) → Fillable (k n))
Fillable (coordinate k) = (z : ℤ) → Fillable (k z)
Fillable (end f) = Last f

pub fillable_after : {A B : Type 0} (f : Form A) (k : A → Form B) → Endless f → Fillable f → ((a : A) → Fillable (k a)) → Fillable (after f k)
unfolding Fillable Endless
fillable_after (gives a) k e c h = h a
fillable_after (token w f) k e c h = (c.0, fillable_after f k e c.1 h)
fillable_after (natural low high g) k e c h = (c.0, λ n. fillable_after (g n) k (e n) (c.1 n) h)
fillable_after (coordinate g) k e c h = λ z. fillable_after (g z) k (e z) (c z) h
fillable_after (end f) k e c h = absurd e

pub fillable_times : {A : Type 0} (n : ℕ) (f : Form A) → Endless f → Fillable f → Fillable (times n f)
unfolding Fillable Endless
fillable_times zero f e c = tt
fillable_times (suc n) f e c = fillable_after f _ e c (λ a. fillable_after (times n f) _ (endless_times n f e) (fillable_times n f e c) (λ rest. tt))

pub fillable_retold : {A B : Type 0} (f : Form A) (g : A → B) → Fillable f → Fillable (after f (λ x. gives (g x)))
unfolding Fillable Last
fillable_retold (gives a) g c = tt
fillable_retold (token w f) g c = (c.0, fillable_retold f g c.1)
fillable_retold (natural low high k) g c = (c.0, λ n. fillable_retold (k n) g (c.1 n))
fillable_retold (coordinate k) g c = λ z. fillable_retold (k z) g (c z)
fillable_retold (end (gives a)) g c = tt
fillable_retold (end (token w f)) g c = absurd c
fillable_retold (end (natural low high k)) g c = absurd c
fillable_retold (end (coordinate k)) g c = absurd c
fillable_retold (end (end f)) g c = absurd c

filled : {A : Type 0} (f : Form A) → Fillable f → (a : A) × (bs : List ℕ) × Spelled f a bs
unfolding Fillable Last
filled (gives a) c = (a, [], s_gives)
filled (token w f) c = let i = filled f c.1 in (i.0, w ++ i.1, s_token i.2)
filled (natural low high k) c = let i = filled (k low) (c.1 low) in (i.0, decimal low ++ i.1, s_natural low (omega arith) c.0 i.2)
filled (coordinate k) c = let i = filled (k (pos 0)) (c (pos 0)) in (i.0, signed_decimal (pos 0) ++ i.1, s_coordinate (pos 0) (omega arith) i.2)
filled (end (gives a)) c = (a, [], s_end s_gives)
filled (end (token w f)) c = absurd c
filled (end (natural low high k)) c = absurd c
filled (end (coordinate k)) c = absurd c
filled (end (end f)) c = absurd c

-- what follows a run that is a token begins with no plain byte
rest_clear : (bs : List ℕ) → Clear (drop (prefix_len plain bs) bs)
unfolding Clear
rest_clear [] = tt
rest_clear (b ∷ bs) = go (plain b) refl (rest_clear bs)
  where
    go : (t : Bool) → plain b ≡ t → Clear (drop (prefix_len plain bs) bs) → Clear (drop (cond t (1 + prefix_len plain bs) 0) (b ∷ bs))
    go true e c = subst (λ n. Clear (drop n (b ∷ bs))) (sym (one-add (prefix_len plain bs))) c
    go false e c = e

run_clear : (bs w : List ℕ) → Run w → front bs ≡ w → Clear (drop (length w) bs)
unfolding Clear
run_clear [] w r e = absurd (omega (arith, r.0, ap length e))
run_clear (b ∷ bs) w r e = go (plain b) refl e
  where
    long : length (take (prefix_len plain bs) bs) ≡ prefix_len plain bs
    long = length-take-le (prefix_len plain bs) bs (prefix_len-le-length plain bs)

    go : (t : Bool) → plain b ≡ t → cond t (b ∷ take (prefix_len plain bs) bs) (b ∷ []) ≡ w → Clear (drop (length w) (b ∷ bs))
    go true p e = subst (λ n. Clear (drop n (b ∷ bs))) (ap suc (sym long) ∙ ap length e) (rest_clear bs)
    go false p e =
        let a : AllByRecursion (λ b. plain b ≡ true) (b ∷ []) = subst (AllByRecursion (λ b. plain b ≡ true)) (sym e) r.1 in
        let z : true ≡ false = sym a.0 ∙ p in
        absurd (grind arith)

after_run : (text w : List ℕ) (p : ℕ) → Run w → front (drop p text) ≡ w → Clear (drop (p + length w) text)
after_run text w p r e = subst Clear (drop-drop (length w) p text) (run_clear (drop p text) w r e)

head_front : (x : ℕ) (xs : List ℕ) → get_or (front (x ∷ xs)) 0 0 ≡ x
head_front x xs = go (plain x)
  where
    go : (t : Bool) → get_or (cond t (x ∷ take (prefix_len plain xs) xs) (x ∷ [])) 0 0 ≡ x
    go true = refl
    go false = refl

some_front : (x : ℕ) (xs : List ℕ) → front (x ∷ xs) ≡ [] → ⊥
some_front x xs = go (plain x)
  where
    go : (t : Bool) → cond t (x ∷ take (prefix_len plain xs) xs) (x ∷ []) ≡ [] → ⊥
    go true e = omega (arith, ap length e)
    go false e = omega (arith, ap length e)

clear_front : (xs ys : List ℕ) → Clear ys → front xs ≡ front ys → Clear xs
unfolding Clear
clear_front [] ys c e = tt
clear_front (x ∷ xs) [] c e = absurd (some_front x xs e)
clear_front (x ∷ xs) (y ∷ ys) c e = ap plain (sym (head_front x xs) ∙ ap (λ l. get_or l 0 0) e ∙ head_front y ys) ∙ c

clear_next : (text before rest : List ℕ) (r q : ℕ) → Clear (drop r text) → drop r text ≡ before ++ drop q text → front rest ≡ front (drop q text) → Clear (before ++ rest)
unfolding Clear
clear_next text [] rest r q c e h = clear_front rest (drop q text) (subst Clear e c) h
clear_next text (b ∷ bs) rest r q c e h = subst Clear e c

-- a blank, a line end or the text's end is no number
clear_number : (ys : List ℕ) → Clear ys → number.integer (front ys) ≡ None
unfolding Clear
clear_number [] c = refl
clear_number (y ∷ ys) c = integer_none (y ∷ ys) (go (eqb y 32) (eqb y 10) refl refl)
  where
    go : (s t : Bool) → eqb y 32 ≡ s → eqb y 10 ≡ t → numeric y ≡ false
    go true t p q = ap numeric (eqb-true y 32 p)
    go false true p q = ap numeric (eqb-true y 10 q)
    go false false p q =
        let a : plain y ≡ true = rw (p, q) in
        let z : true ≡ false = sym a ∙ c in
        absurd (grind arith)

no_sign : (o : Option ℤ) → SameSign o None → ⊥
no_sign None h = h
no_sign (Some (pos n)) h = h
no_sign (Some (negsuc n)) h = h

not_alike : (v w : List ℕ) → number.integer w ≡ None → Alike v w → ⊥
not_alike v w e h = no_sign (number.integer v) (subst (λ o. SameSign (number.integer v) o) e h)

alike_not : (v w : List ℕ) → number.integer v ≡ None → Alike v w → ⊥
alike_not v w e h = subst (λ o. SameSign o (number.integer w)) e h

clear_alike : (text before rest : List ℕ) (r q : ℕ) → Clear (drop r text) → drop r text ≡ before ++ drop q text → Alike (front rest) (front (drop q text)) → Clear (before ++ rest)
unfolding Clear
clear_alike text [] rest r q c e h = absurd (not_alike (front rest) (front (drop q text)) (clear_number (drop q text) (subst Clear e c)) h)
clear_alike text (b ∷ bs) rest r q c e h = subst Clear e c

-- the token itself is wrong
module _ {A : Type 0} (f : Form A) (text : List ℕ) (p : ℕ) (c : Fillable f) (h : (a : A) (rest : List ℕ) → Spelled f a rest → front rest ≡ front (drop p text) → ⊥) where
  at_form : (e : TextFault) → e ≡ fault.Form p → ((a : A) (rest : List ℕ) → Spelled f a rest → Alike (front rest) (front (drop p text)) → ⊥) → Wrong f text p e
  at_form e q n = subst (λ x. Wrong f text p x) (sym q) (record {
    before = [];
    cut = refl;
    far = sym (add-zero p);
    begun = filled f c;
    wrong = h;
    sort = n;
  })

  at_limit : (e : TextFault) → e ≡ fault.Limit p → (a : A) (rest : List ℕ) → Spelled f a rest → Alike (front rest) (front (drop p text)) → Wrong f text p e
  at_limit e q a rest s n = subst (λ x. Wrong f text p x) (sym q) (record {
    before = [];
    cut = refl;
    far = sym (add-zero p);
    begun = filled f c;
    wrong = h;
    sort = (a, rest, s, n);
  })

-- a later one is
module _ {A : Type 0} (f g : Form A) (text w : List ℕ) (p r : ℕ)
    (up : (a : A) (zs : List ℕ) → Spelled g a zs → Spelled f a (w ++ zs))
    (down : (a : A) (zs : List ℕ) → Spelled f a (w ++ zs) → (Clear (drop r text) → Clear zs) → Spelled g a zs) where
  sorted : (e : TextFault) (before : List ℕ) → drop r text ≡ before ++ drop (fault_place e) text → Sort g before text e → Sort f (w ++ before) text e
  sorted (fault.Short q) before c s = s
  sorted (fault.Form q) before c s = λ a rest z l.
      s a rest (down a (before ++ rest) (subst (λ x. Spelled f a x) (append_assoc w before rest) z) (λ k. clear_alike text before rest r q k c l)) l
  sorted (fault.Limit q) before c s =
      (s.0, s.1, subst (λ x. Spelled f s.0 x) (sym (append_assoc w before s.1)) (up s.0 (before ++ s.1) s.2), s.3)

  further : (e : TextFault) → front (drop p text) ≡ w → r ≡ p + length w → Wrong g text r e → Wrong f text p e
  further e t h i = record {
    before = w ++ i.before;
    cut = joined text p r (fault_place e) w i.before t h i.cut;
    far = i.far ∙ ap (λ n. n + length i.before) h ∙ simp length-append (omega arith);
    begun = (i.begun.0, i.begun.1, subst (λ x. Spelled f i.begun.0 x) (sym (append_assoc w i.before i.begun.1)) (up i.begun.0 (i.before ++ i.begun.1) i.begun.2));
    wrong = λ a rest s z. i.wrong a rest (down a (i.before ++ rest) (subst (λ x. Spelled f a x) (append_assoc w i.before rest) s) (λ c. clear_next text i.before rest r (fault_place e) c i.cut z)) z;
    sort = sorted e i.before i.cut i.sort;
  }

-- spellings taken apart
token_inv : {A : Type 0} {w : List ℕ} {f : Form A} {a : A} {ys : List ℕ} → Spelled (token w f) a ys → (bs : List ℕ) × (ys ≡ w ++ bs) × Spelled f a bs
token_inv (s_token {bs = bs} s) = (bs, refl, s)

natural_inv : {A : Type 0} {low high : ℕ} {k : ℕ → Form A} {a : A} {ys : List ℕ} → Spelled (natural low high k) a ys → (m : ℕ) × (bs : List ℕ) × (low ≤ m) × (m ≤ high) × (ys ≡ decimal m ++ bs) × Spelled (k m) a bs
natural_inv (s_natural {bs = bs} m l h s) = (m, bs, l, h, refl, s)

coordinate_inv : {A : Type 0} {k : ℤ → Form A} {a : A} {ys : List ℕ} → Spelled (coordinate k) a ys → (z : ℤ) × (bs : List ℕ) × InRange z × (ys ≡ signed_decimal z ++ bs) × Spelled (k z) a bs
coordinate_inv (s_coordinate {bs = bs} z h s) = (z, bs, h, refl, s)

end_inv : {A : Type 0} {f : Form A} {a : A} {ys : List ℕ} → Spelled (end f) a ys → ys ≡ []
end_inv (s_end s) = refl

-- where each token that is declined is declined, and with which number
token_err : (w text : List ℕ) (p : ℕ) (y : TextFault) → token_at w text p ≡ Err y → (y ≡ fault.Form p) × (front (drop p text) ≡ w → ⊥)
token_err w text p y e = go (bytes_eq w (front (drop p text))) refl e
  where
    go : (t : Bool) → bytes_eq w (front (drop p text)) ≡ t → ◌≡◌ {A = Result ℕ TextFault} (cond t (Ok (p + length w)) (Err (fault.Form p))) (Err y) → (y ≡ fault.Form p) × (front (drop p text) ≡ w → ⊥)
    go true s e = absurd (never _ _ (sym e))
    go false s e = (sym (err_is _ _ e), λ h. let z : true ≡ false = sym ((bytes_eq-Decides w (front (drop p text))).1 (sym h)) ∙ s in absurd (grind arith))

placed_err : {A : Type 0} (m : ℕ) (x : Result A TextFault) (y : TextFault) → then x (placed m) ≡ Err y → x ≡ Err y
placed_err m (Ok a) y e = absurd (never _ _ (sym e))
placed_err m (Err z) y e = ap (λ z. Err z) (err_is _ _ e)

-- no number, or one past its limit
abbrev Ill : {A : Type 0} → ℕ → Option A → TextFault → Type 0
Ill {A} place o z = ((o ≡ None) × (z ≡ fault.Form place)) ⊎ ((v : A) × (o ≡ Some v) × (z ≡ fault.Limit place))

limited_err : (low high place : ℕ) (o : Option ℕ) (z : TextFault) → limited low high place o ≡ Err z → Ill place o z
limited_err low high place None z e = inl (refl, sym (err_is _ _ e))
limited_err low high place (Some n) z e = inr (n, refl, go (leb low n) (leb n high) e)
  where
    go : (s t : Bool) → ◌≡◌ {A = Result ℕ TextFault} (cond s (cond t (Ok n) (Err (fault.Limit place))) (Err (fault.Limit place))) (Err z) → z ≡ fault.Limit place
    go true true e = absurd (never _ _ (sym e))
    go true false e = sym (err_is _ _ e)
    go false t e = sym (err_is _ _ e)

bounded_err : (place : ℕ) (o : Option ℤ) (z : TextFault) → bounded place o ≡ Err z → Ill place o z
bounded_err place None z e = inl (refl, sym (err_is _ _ e))
bounded_err place (Some (pos n)) z e = inr (pos n, refl, go (leb n 16777216) e)
  where
    go : (t : Bool) → ◌≡◌ {A = Result ℤ TextFault} (cond t (Ok (pos n)) (Err (fault.Limit place))) (Err z) → z ≡ fault.Limit place
    go true e = absurd (never _ _ (sym e))
    go false e = sym (err_is _ _ e)
bounded_err place (Some (negsuc n)) z e = inr (negsuc n, refl, go (ltb n 16777216) e)
  where
    go : (t : Bool) → ◌≡◌ {A = Result ℤ TextFault} (cond t (Ok (negsuc n)) (Err (fault.Limit place))) (Err z) → z ≡ fault.Limit place
    go true e = absurd (never _ _ (sym e))
    go false e = sym (err_is _ _ e)

-- a numeral without minus is one that `natural` reads
plain_only : (m : ℕ) (bs : List ℕ) → number.natural bs ≡ None → SameSign (Some (pos m)) (number.integer bs) → ⊥
plain_only m [] e h = h
plain_only m (c ∷ cs) e h = go (eqb c 45) (number.natural cs) h
  where
    go : (t : Bool) (o : Option ℕ) → SameSign (Some (pos m)) (cond t (number.negated o) (number.plain (number.natural (c ∷ cs)))) → ⊥
    go true None h = h
    go true (Some zero) h = h
    go true (Some (suc n)) h = h
    go false o h = subst (λ x. SameSign (Some (pos m)) (number.plain x)) e h

alike_by : (v w : List ℕ) (a b : ℤ) → number.integer v ≡ Some a → number.integer w ≡ Some b → SameSign (Some a) (Some b) → Alike v w
alike_by v w a b p q h = subst₂ SameSign (sym p) (sym q) h

-- a coordinate in range of the same sign
like : (v : ℤ) → (z : ℤ) × InRange z × SameSign (Some z) (Some v)
like (pos n) = (pos 0, omega arith, tt)
like (negsuc n) = (negsuc 0, omega arith, tt)

natural_taken : (low high : ℕ) → high < 2 ^ 32 - 1 → (text : List ℕ) (p n : ℕ) → low ≤ n → n ≤ high → front (drop p text) ≡ decimal n → natural_at low high text p ≡ Ok (n, p + length (decimal n))
natural_taken low high s text p n l h e =
    ap (λ x. then (natural_of low high p x) (placed (p + length x))) e
    ∙ ap (λ x. then x (placed (p + length (decimal n)))) (((number_law p).1 low high s).complete n (l, h))

coordinate_taken : (text : List ℕ) (p : ℕ) (z : ℤ) → InRange z → front (drop p text) ≡ signed_decimal z → coordinate_at text p ≡ Ok (z, p + length (signed_decimal z))
coordinate_taken text p z i e =
    ap (λ x. then (coordinate_of p x) (placed (p + length x))) e
    ∙ ap (λ x. then x (placed (p + length (signed_decimal z)))) ((number_law p).0.complete z i)

module _ {A : Type 0} (text : List ℕ) (p : ℕ) (e : TextFault) where
  token_case : (w : List ℕ) (f : Form A) → Parted (token w f) → Fillable (token w f) → (x : Result ℕ TextFault) → token_at w text p ≡ x → then x (λ r. judge f text r) ≡ Err e → ((r : ℕ) → judge f text r ≡ Err e → Wrong f text r e) → Wrong (token w f) text p e
  unfolding Fillable
  token_case w f c v (Ok r) t h ih =
      let s = token_sound w text p r t in
      further (token w f) f text w p r (λ a zs z. s_token z)
      (λ a zs z _. let i = token_inv z in subst (λ x. Spelled f a x) (append_cancel_left w i.0 zs (sym i.1)) i.2)
      e s.0 s.1 (ih r h)
  token_case w f c v (Err y) t h ih =
      let o = token_err w text p y t in
      let fr : (a : A) (rest : List ℕ) → Spelled (token w f) a rest → front rest ≡ w =
      λ a rest s.
      let i = token_inv s in
      ap front i.1 ∙ ⊎_elim (front_mark w i.0) (λ r. front_run_is w i.0 r.0 (breaks_clear i.2 r.1)) c.0 in
      at_form (token w f) text p v (λ a rest s g. o.1 (sym g ∙ fr a rest s)) e (sym (err_is _ _ h) ∙ o.0)
      (λ a rest s g. alike_not w (front (drop p text)) v.0 (subst (λ x. Alike x (front (drop p text))) (fr a rest s) g))

  natural_case : (low high : ℕ) (k : ℕ → Form A) → Parted (natural low high k) → Fillable (natural low high k) → (x : Result (ℕ × ℕ) TextFault) → natural_at low high text p ≡ x → then x (λ r. judge (k r.0) text r.1) ≡ Err e → ((n r : ℕ) → judge (k n) text r ≡ Err e → Wrong (k n) text r e) → Wrong (natural low high k) text p e
  natural_case low high k c v (Ok r) t h ih =
      let n = r.0 in
      let s = placed_sound (p + length (front (drop p text))) (natural_of low high p (front (drop p text))) n r.1 t in
      let l = ((number_law p).1 low high c.0).sound (front (drop p text)) n s.0 in
      let m : r.1 ≡ p + length (decimal n) = s.1 ∙ ap (λ w. p + length w) l.0 in
      let run = run_decimal n (omega (arith, c.0, l.1.1)) in
      further (natural low high k) (k n) text (decimal n) p r.1 (λ a zs z. s_natural n l.1.0 l.1.1 z)
      (λ a zs z cl.
      let i = natural_inv z in
      let clear : Clear zs = cl (subst (λ x. Clear (drop x text)) (sym m) (after_run text (decimal n) p run l.0)) in
      let fm : front (decimal i.0 ++ i.1) ≡ decimal i.0 = front_run_is (decimal i.0) i.1 (run_decimal i.0 (omega (arith, c.0, i.3))) (breaks_clear i.5 (c.1 i.0).0) in
      let fn : front (decimal n ++ zs) ≡ decimal n = front_run_is (decimal n) zs run clear in
      let same : decimal i.0 ≡ decimal n = sym fm ∙ ap front (sym i.4) ∙ fn in
      let mn : i.0 ≡ n = ok_is _ _ (sym (((number_law p).1 low high c.0).complete i.0 (i.2, i.3)) ∙ ap (natural_of low high p) same ∙ ((number_law p).1 low high c.0).complete n l.1) in
      let bz : i.1 ≡ zs = append_cancel_left (decimal n) i.1 zs (ap (λ x. x ++ i.1) (sym same) ∙ sym i.4) in
      subst (λ x. Spelled (k n) a x) bz (subst (λ x. Spelled (k x) a i.1) mn i.5))
      e l.0 m (ih n r.1 h)
  natural_case low high k c v (Err y) t h ih =
      let token = front (drop p text) in
      let fr : (a : A) (rest : List ℕ) → Spelled (natural low high k) a rest → (m : ℕ) × (front rest ≡ decimal m) × (low ≤ m) × (m ≤ high) =
      λ a rest s.
      let i = natural_inv s in
      (i.0, ap front i.4 ∙ front_run_is (decimal i.0) i.1 (run_decimal i.0 (omega (arith, c.0, i.3))) (breaks_clear i.5 (c.1 i.0).0), i.2, i.3) in
      let wrong : (a : A) (rest : List ℕ) → Spelled (natural low high k) a rest → front rest ≡ token → ⊥ =
      λ a rest s g. let m = fr a rest s in never _ _ (sym t ∙ natural_taken low high c.0 text p m.0 m.2 m.3 (sym g ∙ m.1)) in
      let q = sym (err_is _ _ h) in
      ⊎_elim
      (λ o. at_form (natural low high k) text p v wrong e (q ∙ o.1)
      (λ a rest s g.
      let m = fr a rest s in
      let im = ap number.integer m.1 ∙ integer_decimal m.0 (omega (arith, c.0, m.3)) in
      plain_only m.0 token o.0 (subst (λ x. SameSign x (number.integer token)) im g)))
      (λ o.
      let w = filled (natural low high k) v in
      let m = fr w.0 w.1 w.2 in
      let im = ap number.integer m.1 ∙ integer_decimal m.0 (omega (arith, c.0, m.3)) in
      let it = integer_natural token o.0 o.1 in
      at_limit (natural low high k) text p v wrong e (q ∙ o.2) w.0 w.1 w.2 (alike_by (front w.1) token (pos m.0) (pos o.0) im it tt))
      (limited_err low high p (number.natural token) y (placed_err (p + length token) (natural_of low high p token) y t))

  coordinate_case : (k : ℤ → Form A) → Parted (coordinate k) → Fillable (coordinate k) → (x : Result (ℤ × ℕ) TextFault) → coordinate_at text p ≡ x → then x (λ r. judge (k r.0) text r.1) ≡ Err e → ((n : ℤ) (r : ℕ) → judge (k n) text r ≡ Err e → Wrong (k n) text r e) → Wrong (coordinate k) text p e
  unfolding Fillable
  coordinate_case k c v (Ok r) t h ih =
      let n = r.0 in
      let s = placed_sound (p + length (front (drop p text))) (coordinate_of p (front (drop p text))) n r.1 t in
      let l = (number_law p).0.sound (front (drop p text)) n s.0 in
      let m : r.1 ≡ p + length (signed_decimal n) = s.1 ∙ ap (λ w. p + length w) l.0 in
      let run = run_signed n l.1 in
      further (coordinate k) (k n) text (signed_decimal n) p r.1 (λ a zs z. s_coordinate n l.1 z)
      (λ a zs z cl.
      let i = coordinate_inv z in
      let clear : Clear zs = cl (subst (λ x. Clear (drop x text)) (sym m) (after_run text (signed_decimal n) p run l.0)) in
      let fm : front (signed_decimal i.0 ++ i.1) ≡ signed_decimal i.0 = front_run_is (signed_decimal i.0) i.1 (run_signed i.0 i.2) (breaks_clear i.4 (c i.0).0) in
      let fn : front (signed_decimal n ++ zs) ≡ signed_decimal n = front_run_is (signed_decimal n) zs run clear in
      let same : signed_decimal i.0 ≡ signed_decimal n = sym fm ∙ ap front (sym i.3) ∙ fn in
      let mn : i.0 ≡ n = ok_is _ _ (sym ((number_law p).0.complete i.0 i.2) ∙ ap (coordinate_of p) same ∙ (number_law p).0.complete n l.1) in
      let bz : i.1 ≡ zs = append_cancel_left (signed_decimal n) i.1 zs (ap (λ x. x ++ i.1) (sym same) ∙ sym i.3) in
      subst (λ x. Spelled (k n) a x) bz (subst (λ x. Spelled (k x) a i.1) mn i.4))
      e l.0 m (ih n r.1 h)
  coordinate_case k c v (Err y) t h ih =
      let token = front (drop p text) in
      let wrong : (a : A) (rest : List ℕ) → Spelled (coordinate k) a rest → front rest ≡ token → ⊥ =
      λ a rest s g.
      let i = coordinate_inv s in
      let fm : front (signed_decimal i.0 ++ i.1) ≡ signed_decimal i.0 = front_run_is (signed_decimal i.0) i.1 (run_signed i.0 i.2) (breaks_clear i.4 (c i.0).0) in
      never _ _ (sym t ∙ coordinate_taken text p i.0 i.2 (sym g ∙ ap front i.3 ∙ fm)) in
      let q = sym (err_is _ _ h) in
      ⊎_elim
      (λ o. at_form (coordinate k) text p v wrong e (q ∙ o.1) (λ a rest s g. not_alike (front rest) token o.0 g))
      (λ o.
      let z = like o.0 in
      let w = filled (k z.0) (v z.0) in
      let fm : front (signed_decimal z.0 ++ w.1) ≡ signed_decimal z.0 = front_run_is (signed_decimal z.0) w.1 (run_signed z.0 z.1) (breaks_clear w.2 (c z.0).0) in
      let im = ap number.integer fm ∙ integer_of z.0 z.1 in
      at_limit (coordinate k) text p v wrong e (q ∙ o.2) w.0 (signed_decimal z.0 ++ w.1) (s_coordinate z.0 z.1 w.2) (alike_by (front (signed_decimal z.0 ++ w.1)) token z.0 o.0 im o.1 z.2))
      (bounded_err p (number.integer token) y (placed_err (p + length token) (coordinate_of p token) y t))

  end_case : (a : A) → (t : Bool) → leb (length text) p ≡ t → then (cond t (Ok p) (Err (fault.Form p))) (λ q. judge (gives a) text q) ≡ Err e → Wrong (end (gives a)) text p e
  unfolding Fillable Last
  end_case a true t h = absurd (never _ _ (sym h))
  end_case a false t h =
      at_form (end (gives a)) text p tt (λ b rest s g. ends (drop p text) refl (sym g ∙ ap front (end_inv s))) e (sym (err_is _ _ h))
      (λ b rest s g. alike_not [] (front (drop p text)) refl (subst (λ x. Alike (front x) (front (drop p text))) (end_inv s) g))
    where
      ends : (bs : List ℕ) → drop p text ≡ bs → front bs ≡ [] → ⊥
      ends [] q g =
          let l : length text ≤ p = omega (arith, length-drop p text, ap length q) in
          let z : true ≡ false = sym (le-leb (length text) p l) ∙ t in
          absurd (grind arith)
      ends (b ∷ bs) q g = some_front b bs g

pub first_wrong : {A : Type 0} (f : Form A) → Parted f → Fillable f → (text : List ℕ) (p : ℕ) (e : TextFault) → judge f text p ≡ Err e → Wrong f text p e
unfolding Fillable Last
first_wrong (gives a) c v text p e h = absurd (never _ _ (sym h))
first_wrong (token w f) c v text p e h = token_case text p e w f c v (token_at w text p) refl h (λ r g. first_wrong f c.1 v.1 text r e g)
first_wrong (natural low high k) c v text p e h = natural_case text p e low high k c v (natural_at low high text p) refl h (λ n r g. first_wrong (k n) (c.1 n).1 (v.1 n) text r e g)
first_wrong (coordinate k) c v text p e h = coordinate_case text p e k c v (coordinate_at text p) refl h (λ z r g. first_wrong (k z) (c z).1 (v z) text r e g)
first_wrong (end (gives a)) c v text p e h = end_case text p e a (leb (length text) p) refl h
first_wrong (end (token w f)) c v text p e h = absurd v
first_wrong (end (natural low high k)) c v text p e h = absurd v
first_wrong (end (coordinate k)) c v text p e h = absurd v
first_wrong (end (end f)) c v text p e h = absurd v
