-- A float y that is a / c in size: when `y.trunc() == y`, and what `y as i32` is.
use Rattle.std.proofs.Common.{◌≡◌, ℕ, zero, suc, ◌+◌, ◌*◌, ◌/◌, ◌%◌, ◌^◌, ◌<◌, ◌≤◌, Bool, true, false, cond, not, ◌&&◌, ◌||◌, T, eqb, ltb, leb, ℤ, pos, sym, refl, ap, ◌∙◌, subst, true≢false, le_trans, le_of_eq, lt_of_le_of_lt, add-zero, lt_irrefl, zero-lt-suc, mul-pos, div-add-mod', zero-mul, mul-one, mul_right_comm, arith, lit<, lit≤, le→leb, lt→ltb, w32, to_z, of_z, eq-eqb, ne_eqb, eqb-true}
use mathlib.Core.Bool.{beq}
use native.Mathlib.Nat.{eq_of_mul-eq-mul_right, mul-mod_left}
use lib.Ieee.{Float, nan, inf, fin, binary64, up, down, round, eq, ne, whole, in_signed, to_signed, of_bits}
use lib.Ieee.Fits.{and_i, down_pos, eq→eqb}
use lib.Ieee.Exact.{HasValue}
use lib.Ieee.Back.{round_whole}
use lib.Ieee.Casts.{to_signed_cut, to_signed_in}
use lib.Ieee.Nearest.{div_same}
use mir.ValLaws.{to_z-of_z}
use borrow.Author.Tests.{eqb-false, not-true, not-false}
use Rattle.std.specs.Float.{trunc, round_with}
use Rattle.order.specs.Scale.{signed}
use Rattle.order.proofs.Scaling.{nought}

-- a / c, and a' / c' of the same size: both whole, or neither
pub rest_same : (a c a' c' : ℕ) → 0 < c → 0 < c' → a * c' ≡ a' * c → a % c ≡ 0 → a' % c' ≡ 0
rest_same a c a' c' C C' h z =
    let q : a ≡ a / c * c = sym (div-add-mod' a c) ∙ ap (λ (x : ℕ). a / c * c + x) z ∙ add-zero (a / c * c) in
    let e : a' ≡ a / c * c' = eq_of_mul-eq-mul_right c C a' (a / c * c') (sym h ∙ ap (λ (x : ℕ). x * c') q ∙ mul_right_comm (a / c) c c') in
    ap (λ (x : ℕ). x % c') e ∙ mul-mod_left (a / c) c'

exact_whole : (q n d : ℕ) → q * d ≡ n → n % d ≡ 0
exact_whole q n d h = ap (λ (x : ℕ). x % d) (sym h) ∙ mul-mod_left q d

pub whole_exact : (n d : ℕ) → n % d ≡ 0 → n / d * d ≡ n
whole_exact n d z = sym (add-zero (n / d * d)) ∙ ap (λ (x : ℕ). n / d * d + x) (sym z) ∙ div-add-mod' n d

-- a float z that is q, compared with m * 2 ^ e of the same sign
and_true : (b : Bool) → (b && true) ≡ b
and_true true = refl
and_true false = refl

level_same : (a b : ℕ) (s : Bool) → (eqb a b && (beq s s || eqb a 0)) ≡ eqb a b
level_same a b true = and_true (eqb a b)
level_same a b false = and_true (eqb a b)

eq_as : (z : Float) (s : Bool) (q m : ℕ) (e : ℤ) → HasValue z s q 1 → eq z (fin s m e) ≡ eqb (q * down e) (m * up e)
unfolding eq
eq_as nan s q m e v = absurd v
eq_as (inf t) s q m e v = absurd v
eq_as (fin t n g) s q m e v =
    let A = n * up g * down e in
    let B = m * up e * down g in
    let k : A ≡ q * down e * down g = ap (λ (x : ℕ). x * down e) (sym (mul-one (n * up g)) ∙ v.1) ∙ mul_right_comm q (down g) (down e) in
    let same : eqb A B ≡ eqb (q * down e) (m * up e) = join (eqb (q * down e) (m * up e)) (eqb-true (q * down e) (m * up e)) (eqb-false (q * down e) (m * up e)) k in
    ap (λ (r : Bool). eqb A B && (beq r s || eqb A 0)) v.0 ∙ level_same A B s ∙ same
  where
    join : (b : Bool) → (b ≡ true → q * down e ≡ m * up e) → (b ≡ false → q * down e ≡ m * up e → ⊥) → n * up g * down e ≡ q * down e * down g
        → eqb (n * up g * down e) (m * up e * down g) ≡ b
    join true yes' no' k = eq-eqb (n * up g * down e) (m * up e * down g) (k ∙ ap (λ (x : ℕ). x * down g) (yes' refl))
    join false yes' no' k =
        ne_eqb (n * up g * down e) (m * up e * down g) (λ h. no' refl (eq_of_mul-eq-mul_right (down g) (down_pos g) (q * down e) (m * up e) (sym k ∙ h)))

trunc_is : (s : Bool) (m : ℕ) (e : ℤ) → trunc binary64 (fin s m e) ≡ round binary64 s (m * up e / down e) 1
unfolding round_with
trunc_is true m e = refl
trunc_is false m e = refl

trunc_eq : (s : Bool) (m : ℕ) (e : ℤ) → m * up e / down e ≤ 2 ^ 53 → eq (trunc binary64 (fin s m e)) (fin s m e) ≡ eqb (m * up e / down e * down e) (m * up e)
trunc_eq s m e h =
    ap (λ (z : Float). eq z (fin s m e)) (trunc_is s m e)
    ∙ eq_as (round binary64 s (m * up e / down e) 1) s (m * up e / down e) m e (round_whole binary64 s (m * up e / down e) h)

-- ---- y is a / c with the sign s, and not much
quotient : (m : ℕ) (e : ℤ) (a c : ℕ) → 0 < c → m * up e * c ≡ a * down e → m * up e / down e ≡ a / c
quotient m e a c C h = div_same (m * up e) (down e) a c (down_pos e) C h

small : (m : ℕ) (e : ℤ) (a c : ℕ) → 0 < c → m * up e * c ≡ a * down e → a / c ≤ 2 ^ 24 → m * up e / down e ≤ 2 ^ 53
small m e a c C h w = le_trans (le_of_eq (quotient m e a c C h)) (le_trans w (lit≤ tt))

-- the test `y.trunc() != y`
pub fraction : (y : Float) (s : Bool) (a c : ℕ) → HasValue y s a c → 0 < c → a / c ≤ 2 ^ 24 → ne (trunc binary64 y) y ≡ true → a % c ≡ 0 → ⊥
unfolding ne
fraction nan s a c v C w h z = absurd v
fraction (inf t) s a c v C w h z = absurd v
fraction (fin t m e) s a c v C w h z =
    eqb-false (m * up e / down e * down e) (m * up e)
    (sym (trunc_eq t m e (small m e a c C v.1 w)) ∙ not-true _ h)
    (whole_exact (m * up e) (down e) (rest_same a c (m * up e) (down e) C (down_pos e) (sym v.1) z))

pub no_fraction : (y : Float) (s : Bool) (a c : ℕ) → HasValue y s a c → 0 < c → a / c ≤ 2 ^ 24 → ne (trunc binary64 y) y ≡ false → a % c ≡ 0
unfolding ne
no_fraction nan s a c v C w h = absurd v
no_fraction (inf t) s a c v C w h = absurd v
no_fraction (fin t m e) s a c v C w h =
    rest_same (m * up e) (down e) a c (down_pos e) C v.1
    (exact_whole (m * up e / down e) (m * up e) (down e)
    (eqb-true (m * up e / down e * down e) (m * up e) (sym (trunc_eq t m e (small m e a c C v.1 w)) ∙ not-false _ h)))

-- the test `y == 0.0`
zero_test : (t : Bool) (m : ℕ) (e : ℤ) → eq (fin t m e) (fin false 0 (pos 0)) ≡ true → m * up e ≡ 0
unfolding eq
zero_test t m e h = sym (mul-one (m * up e)) ∙ eqb-true (m * up e * 1) (0 * 1 * down e) (first (eqb (m * up e * 1) (0 * 1 * down e)) _ h) ∙ zero-mul (down e)
  where
    first : (a b : Bool) → (a && b) ≡ true → a ≡ true
    first true b p = refl
    first false b p = p

zero_passes : (t : Bool) (e : ℤ) → eq (fin t 0 e) (fin false 0 (pos 0)) ≡ true
unfolding eq
zero_passes t e =
    subst (λ (x : ℕ). (eqb (x * 1) (0 * down e) && (beq t false || eqb (x * 1) 0)) ≡ true) (sym (zero-mul (up e)))
    (subst (λ (x : ℕ). (eqb 0 x && (beq t false || true)) ≡ true) (sym (zero-mul (down e))) (or_true (beq t false)))
  where
    or_true : (b : Bool) → (b || true) ≡ true
    or_true true = refl
    or_true false = refl

pub no_factor : (a d : ℕ) → 0 < d → a * d ≡ 0 → a ≡ 0
no_factor zero d D h = refl
no_factor (suc a) d D h = absurd (lt_irrefl 0 (subst (λ (x : ℕ). 0 < x) h (mul-pos (zero-lt-suc a) D)))

pub is_zero : (y : Float) (s : Bool) (a c : ℕ) → HasValue y s a c → eq y (of_bits binary64 0) ≡ true → a ≡ 0
is_zero nan s a c v h = absurd v
is_zero (inf t) s a c v h = absurd v
is_zero (fin t m e) s a c v h =
    no_factor a (down e) (down_pos e) (sym v.1 ∙ ap (λ (x : ℕ). x * c) (zero_test t m e (ap (eq (fin t m e)) (sym nought) ∙ h)) ∙ zero-mul c)

-- the cast `y as i32`
not_minus_zero : (t : Bool) (m : ℕ) (e : ℤ) → eq (fin t m e) (fin false 0 (pos 0)) ≡ false → T (not (t && eqb m 0))
not_minus_zero false m e h = tt
not_minus_zero true zero e h = absurd (true≢false (sym (zero_passes true e) ∙ h))
not_minus_zero true (suc m) e h = subst (λ (b : Bool). T (not b)) (sym (ne_eqb (suc m) 0 (λ g. omega arith))) tt

in_range : (t : Bool) (q : ℕ) → q ≤ 2 ^ 24 → T (cond t (leb q (2 ^ 31)) (ltb q (2 ^ 31)))
in_range true q h = le→leb q (2 ^ 31) (le_trans h (lit≤ tt))
in_range false q h = lt→ltb q (2 ^ 31) (lt_of_le_of_lt h (lit< tt))

pub casts : (y : Float) (s : Bool) (a c : ℕ) → HasValue y s a c → 0 < c → a / c ≤ 2 ^ 24 → a % c ≡ 0 → eq y (of_bits binary64 0) ≡ false → T (in_signed binary64 31 y)
unfolding in_signed whole
casts nan s a c v C w z h = absurd v
casts (inf t) s a c v C w z h = absurd v
casts (fin t m e) s a c v C w z h =
    let q = m * up e / down e in
    let r : m * up e % down e ≡ 0 = rest_same a c (m * up e) (down e) C (down_pos e) (sym v.1) z in
    and_i (eqb (m * up e % down e) 0 && leb q (2 ^ 53) && not (t && eqb m 0)) (cond t (leb q (2 ^ 31)) (ltb q (2 ^ 31)))
    (and_i (eqb (m * up e % down e) 0 && leb q (2 ^ 53)) (not (t && eqb m 0))
    (and_i (eqb (m * up e % down e) 0) (leb q (2 ^ 53)) (eq→eqb r) (le→leb q (2 ^ 53) (small m e a c C v.1 w)))
    (not_minus_zero t m e (ap (eq (fin t m e)) (sym nought) ∙ h)))
    (in_range t q (le_trans (le_of_eq (quotient m e a c C v.1)) w))

pub cast_is : (y : Float) (s : Bool) (a c : ℕ) → HasValue y s a c → 0 < c → T (in_signed binary64 31 y) → to_signed 31 y ≡ signed s (a / c)
cast_is nan s a c v C t = absurd v
cast_is (inf u) s a c v C t = absurd v
cast_is (fin u m e) s a c v C t =
    to_signed_cut binary64 31 u m e t ∙ ap (signed u) (quotient m e a c C v.1) ∙ ap (λ (b : Bool). signed b (a / c)) v.0

-- through the machine's 32 bits
pub through_bits : (y : Float) → to_z w32 (of_z w32 (to_signed 31 y)) ≡ to_signed 31 y
through_bits y = to_z-of_z w32 (to_signed 31 y) (record { sfits = to_signed_in 31 y })
