-- Units as millimetres: `u as f64 / 1024.0` rounds nothing, and what is exactly u units measures u.
use Rattle.std.proofs.Common.{◌≡◌, ℕ, zero, suc, ◌*◌, ◌/◌, ◌^◌, ◌<◌, ◌≤◌, Bool, true, false, ℤ, pos, negsuc, ◌*ℤ◌, neg_ℤ, nat_abs, Ok, Err, Result, sym, refl, ap, ◌∙◌, subst, le_trans, le_of_eq, le_of_suc-le-suc, lt_of_le_of_lt, lt_irrefl, mul-le-mul_right, zero-lt-suc, mul_assoc, mul_comm, mul-pos, lt_of_not-le, zero-mul, le_of_mul-le-mul_right, mul-div_cancel, arith, lit<, lit≤}
use mathlib.Core.Bool.{false≢true}
use lib.IntN.{pos-ne-negsuc}
use lib.Ieee.{Float, nan, inf, fin, binary64, up, down, round, div, of_int, of_bits}
use lib.Ieee.Fits.{down_pos}
use lib.Ieee.Exact.{HasValue, round_exact}
use lib.Ieee.Back.{round_whole}
use lib.Ieee.Scale.{round_same}
use Rattle.order.specs.declared.fault.ScaleFault.{ScaleFault}
use Rattle.order.specs.declared.fault.ScaleFault.TheVariants.{NotNumber, Beyond, OffGrid}
use Rattle.order.specs.Scale.{signed, Past, Exactly, Plain, Measured}
use Rattle.order.specs.Rule.{TheOne}
use Rattle.order.proofs.Scaling.{thousand, same_sign}
use Rattle.order.proofs.Whole.{whole_exact, no_factor}
use Rattle.order.proofs.Meaning.{units_of, measured, on_grid, off_grid, past, signed_times, abs_times, abs_signed, divides}

-- ---- what is exactly u units measures u
neg_pos : (a b : ℕ) → pos a ≡ neg_ℤ (pos b) → a ≡ 0
neg_pos a zero h = ap nat_abs h
neg_pos a (suc b) h = absurd (pos-ne-negsuc a b h)

pos_neg : (a b : ℕ) → 0 < a → neg_ℤ (pos a) ≡ pos b → ⊥
pos_neg zero b A h = lt_irrefl 0 A
pos_neg (suc a) b A h = pos-ne-negsuc b a (sym h)

sign_back : (u : ℤ) (s : Bool) (d n : ℕ) → 0 < d → u *ℤ pos d ≡ signed s n → signed s (nat_abs u) ≡ u
sign_back (pos k) true d n D h = ap (λ (x : ℕ). neg_ℤ (pos x)) (z) ∙ sym (ap pos z)
  where
    z : k ≡ 0
    z = no_factor k d D (neg_pos (k * d) n h)
sign_back (pos k) false d n D h = refl
sign_back (negsuc k) true d n D h = refl
sign_back (negsuc k) false d n D h = absurd (pos_neg (suc k * d) n (mul-pos (zero-lt-suc k) D) h)

size_back : (u : ℤ) (s : Bool) (d n : ℕ) → u *ℤ pos d ≡ signed s n → nat_abs u * d ≡ n
size_back u s d n h = sym (abs_times u d) ∙ ap nat_abs h ∙ abs_signed s n

smaller : (n d : ℕ) → 1024 * n ≤ 16777216 * d → n ≤ 16384 * d
smaller n d h = omega arith

pub exactly_ok : (x : Float) (u : ℤ) → Exactly x u → nat_abs u ≤ 16777216 → units_of x ≡ Ok u
exactly_ok nan u h l = absurd h
exactly_ok (inf s) u h l = absurd h
exactly_ok (fin s m e) u h l =
    let n = m * up e in
    let d = down e in
    let size : nat_abs u * d ≡ 1024 * n = size_back u s d (1024 * n) h in
    on_grid s n d (smaller n d (le_trans (le_of_eq (sym size)) (mul-le-mul_right d l))) (divides u s d (1024 * n) h)
    ∙ ap (λ (a : ℕ). Ok (signed s (a / d))) (sym size)
    ∙ ap (λ (a : ℕ). Ok (signed s a)) (mul-div_cancel (nat_abs u) (down_pos e))
    ∙ ap Ok (sign_back u s d (1024 * n) (down_pos e) h)

-- ---- n / 1024 rounds nothing
quotient : (s : Bool) (n : ℕ) → n ≤ 2 ^ 31 → HasValue (round binary64 s n 1024) s n 1024
quotient s n h =
    round_exact binary64 s n 1024 n 1064 (lit< tt) (lt_of_le_of_lt h (lit< tt))
    (lt_of_le_of_lt (mul-le-mul_right (2 ^ 1064) h) (lit< tt))
    (sym (mul_assoc n (2 ^ 1064) 1024))

div_is : (z : Float) (s : Bool) (n : ℕ) → HasValue z s n 1 → div binary64 z (fin false 1 (pos 10)) ≡ round binary64 s n 1024
unfolding div
div_is nan s n v = absurd v
div_is (inf t) s n v = absurd v
div_is (fin t m e) s n v =
    ap (λ (b : Bool). round binary64 b (m * up e * 1) (1024 * down e)) (same_sign t ∙ v.0)
    ∙ round_same binary64 s (m * up e * 1) (1024 * down e) n 1024 (mul-pos (lit< tt) (down_pos e)) (lit< tt)
    (ap (λ (x : ℕ). x * 1024) v.1 ∙ mul_assoc n (down e) 1024 ∙ ap (λ (x : ℕ). n * x) (mul_comm (down e) 1024))

-- the code's quotient, `u as f64 / 1024.0`
abbrev pub shared : ℤ → Float
shared u = div binary64 (of_int binary64 u) (of_bits binary64 0x4090_0000_0000_0000)

exactly_of : (y : Float) (s : Bool) (n : ℕ) → HasValue y s n 1024 → Exactly y (signed s n)
exactly_of nan s n v = v
exactly_of (inf t) s n v = v
exactly_of (fin t m e) s n v = signed_times s n (down e) ∙ ap (signed s) (sym v.1 ∙ mul_comm (m * up e) 1024) ∙ ap (λ (b : Bool). signed b (1024 * (m * up e))) (sym v.0)

plain_of : (y : Float) (s : Bool) (n : ℕ) → HasValue y s n 1024 → (s ≡ true → 0 < n) → Plain y
plain_of nan s n v h = tt
plain_of (inf t) s n v h = tt
plain_of (fin true zero e) s n v h =
    absurd (lt_irrefl 0 (subst (λ (x : ℕ). 0 < x) (sym v.1 ∙ ap (λ (x : ℕ). x * 1024) (zero-mul (up e))) (mul-pos (h (sym v.0)) (down_pos e))))
plain_of (fin true (suc m) e) s n v h = zero-lt-suc m
plain_of (fin false m e) s n v h = tt

shared_value : (z : Float) (s : Bool) (n : ℕ) → HasValue z s n 1 → n ≤ 2 ^ 31 → HasValue (div binary64 z (of_bits binary64 0x4090_0000_0000_0000)) s n 1024
shared_value z s n v h = subst (λ (y : Float). HasValue y s n 1024) (sym (ap (div binary64 z) thousand ∙ div_is z s n v)) (quotient s n h)

negative : ℤ → Bool
negative (pos n) = false
negative (negsuc n) = true

shared_is : (u : ℤ) → nat_abs u ≤ 2 ^ 31 → HasValue (shared u) (negative u) (nat_abs u) 1024
unfolding of_int negative
shared_is (pos n) h = shared_value (round binary64 false n 1) false n (round_whole binary64 false n (le_trans h (lit≤ tt))) h
shared_is (negsuc n) h = shared_value (round binary64 true (suc n) 1) true (suc n) (round_whole binary64 true (suc n) (le_trans h (lit≤ tt))) h

signed_back : (u : ℤ) → signed (negative u) (nat_abs u) ≡ u
unfolding negative
signed_back (pos n) = refl
signed_back (negsuc n) = refl

below_zero : (u : ℤ) → negative u ≡ true → 0 < nat_abs u
unfolding negative
below_zero (pos n) h = absurd (false≢true h)
below_zero (negsuc n) h = zero-lt-suc n

pub exactly : (u : ℤ) → nat_abs u ≤ 2 ^ 31 → Exactly (shared u) u
exactly u h = subst (Exactly (shared u)) (signed_back u) (exactly_of (shared u) (negative u) (nat_abs u) (shared_is u h))

pub plain : (u : ℤ) → nat_abs u ≤ 2 ^ 31 → Plain (shared u)
plain u h = plain_of (shared u) (negative u) (nat_abs u) (shared_is u h) (below_zero u)

-- ---- what measures u units has a u in range
wider : (n d : ℕ) → n ≤ 16384 * d → 1024 * n ≤ 16777216 * d
wider n d h = omega arith

pub few : (x : Float) (u : ℤ) → (Past x → ⊥) → Exactly x u → nat_abs u ≤ 16777216
few nan u p h = absurd h
few (inf s) u p h = absurd h
few (fin s m e) u p h =
    let n = m * up e in
    let d = down e in
    le_of_mul-le-mul_right (le_trans (le_of_eq (size_back u s d (1024 * n) h)) (wider n d (le_of_suc-le-suc (lt_of_not-le p)))) (down_pos e)

-- ---- the rule leaves one outcome
pub one_outcome : (x : Float) (r : Result ℤ ScaleFault) → Measured x r → r ≡ units_of x
one_outcome x (Ok u) h = sym (exactly_ok x u h.1 (few x u h.0 h.1))
one_outcome nan (Err NotNumber) h = refl
one_outcome (inf s) (Err NotNumber) h = absurd (h tt)
one_outcome (fin s m e) (Err NotNumber) h = absurd (h tt)
one_outcome nan (Err Beyond) h = absurd h
one_outcome (inf s) (Err Beyond) h = refl
one_outcome (fin s m e) (Err Beyond) h = sym (past s (m * up e) (down e) h)
one_outcome nan (Err OffGrid) h = absurd h.0
one_outcome (inf s) (Err OffGrid) h = absurd (h.1 tt)
one_outcome (fin s m e) (Err OffGrid) h =
    let n = m * up e in
    let d = down e in
    sym (off_grid s n d (le_of_suc-le-suc (lt_of_not-le h.1))
    (λ z. h.2 (signed s (1024 * n / d)) (signed_times s (1024 * n / d) d ∙ ap (signed s) (whole_exact (1024 * n) d z))))

pub measured_one : (x : Float) (q r : Result ℤ ScaleFault) → Measured x q → Measured x r → q ≡ r
measured_one x q r g h = one_outcome x q g ∙ sym (one_outcome x r h)

-- a computed outcome is the one of the rule
pub computed : (x : Float) (r : Result ℤ ScaleFault) → units_of x ≡ r → TheOne (Measured x) r
computed x r e = record { holds = subst (Measured x) e (measured x); only = λ q g. one_outcome x q g ∙ e }
