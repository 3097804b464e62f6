-- Number tokens against decimal numerals.
use Rattle.std.proofs.Common.{◌≡◌, ℕ, zero, suc, ◌-◌, ◌^◌, ◌<◌, ◌≤◌, Bool, true, false, cond, eqb, ltb, leb, List, [], ◌∷◌, length, get_or, ℤ, pos, negsuc, Some, None, Ok, Err, decimal, Option, Result, sym, refl, ap, ◌∙◌, ⊎_elim, arith}
use Rattle.std.specs.Char.{is_ascii_digit}
use Rattle.std.specs.Str.Parse.{digits_value}
use Rattle.std.specs.Fmt.{signed_decimal}
use Rattle.std.specs.Str.{all_ascii_digits}
use Rattle.std.proofs.lemmas.Bool.{and_parts, le-leb, lt-ltb, ne_eqb, eqb-true, leb-true, ltb-true, cases_lt}
use Rattle.std.proofs.lemmas.Str.Parse.{IsNumeralModel, numerals_by_value, tells_all_ascii_digits}
use Rattle.std.proofs.lemmas.Fmt.{decimal-digits_value, digits_decimal, digits_value-decimal, first_decimal, decimal_nonempty, decimal_digit}
use Rattle.sheet.specs.declared.fault.TextFault.{TextFault}
use Rattle.sheet.specs.declared.fault.TextFault.TheVariants.{Limit}
use Rattle.point.specs.Range.{InRange}
use Rattle.sheet.specs.Number.{digits_read, natural, integer, negated, plain, limited, bounded, natural_of, coordinate_of}

-- the tokens that are taken are the decimal numerals of the numbers in the range, and no others
pub record Exact {A : Type 0} (In : A → Type 0) (spelling : A → List ℕ) (read : List ℕ → Result A TextFault) : Type 0 where
  pub sound : (bs : List ℕ) (a : A) → read bs ≡ Ok a → (bs ≡ spelling a) × In a
  pub complete : (a : A) → In a → read (spelling a) ≡ Ok a

abbrev pub NumberLaw : Type 0
NumberLaw = (place : ℕ) → Exact InRange signed_decimal (coordinate_of place) × ((low high : ℕ) → high < 2 ^ 32 - 1 → Exact (λ n. (low ≤ n) × (n ≤ high)) decimal (natural_of low high place))

pub own : IsNumeralModel (λ ds. all_ascii_digits ds ≡ true) (digits_value 10)
own = numerals_by_value (λ ds. all_ascii_digits ds ≡ true) tells_all_ascii_digits

-- what a well-formed numeral is
record Well (bs : List ℕ) (n : ℕ) : Type 0 where
  all : all_ascii_digits bs ≡ true
  some : 0 < length bs
  lead : get_or bs 0 0 ≡ 48 → length bs ≡ 1
  is : digits_value 10 bs ≡ n

some_is : (a b : ℕ) → ◌≡◌ {A = Option ℕ} (Some a) (Some b) → a ≡ b
some_is a b e = cc

digits_inv : (bs : List ℕ) (n : ℕ) → digits_read bs ≡ Some n → (all_ascii_digits bs ≡ true) × (digits_value 10 bs ≡ n)
digits_inv bs n e = go (all_ascii_digits bs) e
  where
    go : (t : Bool) → cond t (Some (digits_value 10 bs)) None ≡ Some n → (t ≡ true) × (digits_value 10 bs ≡ n)
    go true e = (refl, some_is _ _ e)
    go false e = let z : ◌≡◌ {A = ℕ} 0 1 = cc in absurd (omega arith)

natural_inv : (bs : List ℕ) (n : ℕ) → natural bs ≡ Some n → Well bs n
natural_inv [] n e = let z : ◌≡◌ {A = ℕ} 0 1 = cc in absurd (omega arith)
natural_inv (c ∷ []) n e =
    let p = digits_inv (c ∷ []) n e in
    record { all = p.0; some = omega arith; lead = λ _. refl; is = p.1 }
natural_inv (c ∷ d ∷ ds) n e = go (eqb c 48) refl e
  where
    go : (t : Bool) → eqb c 48 ≡ t → cond t None (digits_read (c ∷ d ∷ ds)) ≡ Some n → Well (c ∷ d ∷ ds) n
    go true q e = let z : ◌≡◌ {A = ℕ} 0 1 = cc in absurd (omega arith)
    go false q e =
        let p = digits_inv (c ∷ d ∷ ds) n e in
        record { all = p.0; some = omega arith; lead = λ h. let z : true ≡ false = sym (rw h refl) ∙ q in absurd (grind arith); is = p.1 }

natural_of_lem : (bs : List ℕ) (n : ℕ) → Well bs n → natural bs ≡ Some n
natural_of_lem [] n w = absurd (omega (arith, w.some))
natural_of_lem (c ∷ []) n w = let a = w.all in let v = w.is in rw a (ap (λ n. Some n) v)
natural_of_lem (c ∷ d ∷ ds) n w =
    let q = ne_eqb c 48 (λ h. let l = w.lead h in omega arith) in
    let a = w.all in
    let v = w.is in
    rw (q, a) (ap (λ n. Some n) v)

well_decimal : (n : ℕ) → n < 2 ^ 64 → Well (decimal n) n
well_decimal n h = record {
  all = digits_decimal own n h;
  some = decimal_nonempty n h;
  lead = λ e. ⊎_elim (λ s. ap length (decimal_digit n s)) (λ l. absurd (omega (arith, first_decimal n (omega arith) h, e))) (cases_lt n 10);
  is = digits_value-decimal own n h;
}

decimal_well : (bs : List ℕ) (n : ℕ) → n < 2 ^ 64 → Well bs n → bs ≡ decimal n
decimal_well bs n h w =
    sym (decimal-digits_value own bs w.all w.some w.lead (omega (arith, w.is))) ∙ ap decimal w.is

limited_inv : (low high place : ℕ) (o : Option ℕ) (n : ℕ) → limited low high place o ≡ Ok n → (o ≡ Some n) × (low ≤ n) × (n ≤ high)
limited_inv low high place None n e = let z : ◌≡◌ {A = ℕ} 0 1 = cc in absurd (omega arith)
limited_inv low high place (Some m) n e = go (leb low m) (leb m high) refl refl e
  where
    go : (s t : Bool) → leb low m ≡ s → leb m high ≡ t → ◌≡◌ {A = Result ℕ TextFault} (cond s (cond t (Ok m) (Err (Limit place))) (Err (Limit place))) (Ok n) → (Some m ≡ Some n) × (low ≤ n) × (n ≤ high)
    go true true p q e = let s : m ≡ n = cc in (ap (λ k. Some k) s, omega (arith, leb-true low m p), omega (arith, leb-true m high q))
    go true false p q e = let z : ◌≡◌ {A = ℕ} 0 1 = cc in absurd (omega arith)
    go false t p q e = let z : ◌≡◌ {A = ℕ} 0 1 = cc in absurd (omega arith)

limited_of : (low high place n : ℕ) → low ≤ n → n ≤ high → limited low high place (Some n) ≡ Ok n
limited_of low high place n p q = let a = le-leb low n p in let b = le-leb n high q in rw (a, b)

natural_exact : (place low high : ℕ) → high < 2 ^ 32 - 1 → Exact (λ n. (low ≤ n) × (n ≤ high)) decimal (natural_of low high place)
natural_exact place low high h = record {
  sound = λ bs n e.
      let p = limited_inv low high place (natural bs) n e in
      (decimal_well bs n (omega (arith, p.2)) (natural_inv bs n p.0), (p.1, p.2));
  complete = λ n i.
      let w = natural_of_lem (decimal n) n (well_decimal n (omega (arith, i.1))) in
      rw w (limited_of low high place n i.0 i.1);
}

bounded_inv : (place : ℕ) (o : Option ℤ) (z : ℤ) → bounded place o ≡ Ok z → (o ≡ Some z) × InRange z
bounded_inv place None z e = let z : ◌≡◌ {A = ℕ} 0 1 = cc in absurd (omega arith)
bounded_inv place (Some (pos m)) z e = go (leb m 16777216) refl e
  where
    go : (t : Bool) → leb m 16777216 ≡ t → ◌≡◌ {A = Result ℤ TextFault} (cond t (Ok (pos m)) (Err (Limit place))) (Ok z) → (Some (pos m) ≡ Some z) × InRange z
    go true q e = let s : pos m ≡ z = cc in (ap (λ k. Some k) s, rw (← s) (leb-true m 16777216 q))
    go false q e = let z : ◌≡◌ {A = ℕ} 0 1 = cc in absurd (omega arith)
bounded_inv place (Some (negsuc m)) z e = go (ltb m 16777216) refl e
  where
    go : (t : Bool) → ltb m 16777216 ≡ t → ◌≡◌ {A = Result ℤ TextFault} (cond t (Ok (negsuc m)) (Err (Limit place))) (Ok z) → (Some (negsuc m) ≡ Some z) × InRange z
    go true q e = let s : negsuc m ≡ z = cc in (ap (λ k. Some k) s, rw (← s) (ltb-true m 16777216 q))
    go false q e = let z : ◌≡◌ {A = ℕ} 0 1 = cc in absurd (omega arith)

bounded_of : (place : ℕ) (z : ℤ) → InRange z → bounded place (Some z) ≡ Ok z
bounded_of place (pos n) i = let a = le-leb n 16777216 i in rw a
bounded_of place (negsuc n) i = let a = lt-ltb n 16777216 i in rw a

-- what an integer's numeral is made of
integer_inv : (bs : List ℕ) (z : ℤ) → InRange z → integer bs ≡ Some z → bs ≡ signed_decimal z
integer_inv [] z i e = let z : ◌≡◌ {A = ℕ} 0 1 = cc in absurd (omega arith)
integer_inv (c ∷ cs) z i e = go (eqb c 45) refl e
  where
    minus : (o : Option ℕ) → natural cs ≡ o → (z : ℤ) → InRange z → negated o ≡ Some z → c ≡ 45 → c ∷ cs ≡ signed_decimal z
    minus None n z i e q = let z : ◌≡◌ {A = ℕ} 0 1 = cc in absurd (omega arith)
    minus (Some zero) n z i e q = let z : ◌≡◌ {A = ℕ} 0 1 = cc in absurd (omega arith)
    minus (Some (suc m)) n (pos k) i e q = let z : ◌≡◌ {A = ℕ} 0 1 = cc in absurd (omega arith)
    minus (Some (suc m)) n (negsuc k) i e q =
        let s : m ≡ k = cc in
        let d = decimal_well cs (suc k) (omega arith) (natural_inv cs (suc k) (n ∙ ap (λ j. Some (suc j)) s)) in
        cc

    bare : (o : Option ℕ) → natural (c ∷ cs) ≡ o → (z : ℤ) → InRange z → plain o ≡ Some z → c ∷ cs ≡ signed_decimal z
    bare None n z i e = let z : ◌≡◌ {A = ℕ} 0 1 = cc in absurd (omega arith)
    bare (Some m) n (negsuc k) i e = let z : ◌≡◌ {A = ℕ} 0 1 = cc in absurd (omega arith)
    bare (Some m) n (pos k) i e =
        let s : m ≡ k = cc in
        decimal_well (c ∷ cs) k (omega arith) (natural_inv (c ∷ cs) k (n ∙ ap (λ j. Some j) s))

    go : (t : Bool) → eqb c 45 ≡ t → cond t (negated (natural cs)) (plain (natural (c ∷ cs))) ≡ Some z → c ∷ cs ≡ signed_decimal z
    go true q e = minus (natural cs) refl z i e (eqb-true c 45 q)
    go false q e = bare (natural (c ∷ cs)) refl z i e

integer_of_digits : (bs : List ℕ) (n : ℕ) → Well bs n → integer bs ≡ Some (pos n)
integer_of_digits [] n w = absurd (omega (arith, w.some))
integer_of_digits (c ∷ cs) n w =
    let d = (and_parts (is_ascii_digit c) (all_ascii_digits cs) w.all).0 in
    let lo = leb-true 48 c (and_parts (leb 48 c) (leb c 57) d).0 in
    let q = ne_eqb c 45 (λ h. omega arith) in
    let e = natural_of_lem (c ∷ cs) n w in
    rw q (rw e refl)

pub integer_of : (z : ℤ) → InRange z → integer (signed_decimal z) ≡ Some z
integer_of (pos n) i = integer_of_digits (decimal n) n (well_decimal n (omega arith))
integer_of (negsuc n) i =
    let e = natural_of_lem (decimal (suc n)) (suc n) (well_decimal (suc n) (omega arith)) in
    rw e

pub integer_decimal : (n : ℕ) → n < 2 ^ 64 → integer (decimal n) ≡ Some (pos n)
integer_decimal n h = integer_of_digits (decimal n) n (well_decimal n h)

pub integer_natural : (bs : List ℕ) (n : ℕ) → natural bs ≡ Some n → integer bs ≡ Some (pos n)
integer_natural bs n e = integer_of_digits bs n (natural_inv bs n e)

pub number_law : NumberLaw
number_law place = (
  record {
    sound = λ bs z e. let p = bounded_inv place (integer bs) z e in (integer_inv bs z p.1 p.0, p.1);
    complete = λ z i. let e = integer_of z i in rw e (bounded_of place z i);
  },
  λ low high h. natural_exact place low high h,
)
