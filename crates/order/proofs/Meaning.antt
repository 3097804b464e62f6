-- What `units_of` computes is what the rule says, and what the code's tests say of it.
use Rattle.std.proofs.Common.{◌≡◌, ℕ, zero, suc, ◌*◌, ◌/◌, ◌%◌, ◌^◌, ◌<◌, ◌≤◌, Bool, true, false, cond, T, eqb, ltb, ℤ, pos, negsuc, ◌*ℤ◌, neg_ℤ, nat_abs, Ok, Err, Result, sym, refl, ap, ◌∙◌, subst, true≢false, le_of_suc-le-suc, div-lt_iff_lt-mul, zero-mul, mul-one, not-le_of_lt, arith, ltb-false, ltb-true, le-ltb, lt-ltb, eq-eqb, ne_eqb, eqb-true}
use mathlib.Core.Bool.{false≢true}
use native.Mathlib.Nat.{mul-mod_left, zero-div}
use lib.Ieee.{Float, nan, inf, fin, binary64, up, down, is_nan, lt, neg, eq, ne, fits, of_bits, in_signed, to_signed}
use lib.Ieee.Fits.{down_pos}
use lib.Ieee.Exact.{HasValue}
use borrow.Author.Tests.{eqb-false}
use Rattle.std.specs.Float.{trunc}
use Rattle.order.specs.declared.fault.ScaleFault.{ScaleFault}
use Rattle.order.specs.declared.fault.ScaleFault.TheVariants.{NotNumber, Beyond, OffGrid}
use Rattle.order.specs.Scale.{signed, Measured}
use Rattle.order.proofs.Scaling.{limit, product, scaled}
use Rattle.order.proofs.Whole.{whole_exact, fraction, no_fraction, is_zero, casts, cast_is}

-- ---- the outcome computed from the size n / d
abbrev pub sized : Bool → ℕ → ℕ → Result ℤ ScaleFault
sized s n d = cond (ltb (16384 * d) n) (Err Beyond) (cond (eqb (1024 * n % d) 0) (Ok (signed s (1024 * n / d))) (Err OffGrid))

abbrev pub units_of : Float → Result ℤ ScaleFault
units_of nan = Err NotNumber
units_of (inf s) = Err Beyond
units_of (fin s m e) = sized s (m * up e) (down e)

-- ---- the computed outcome is the rule's
pub signed_times : (s : Bool) (q d : ℕ) → signed s q *ℤ pos d ≡ signed s (q * d)
signed_times true zero d = ap (λ (x : ℕ). pos x) (zero-mul d) ∙ ap (λ (x : ℕ). neg_ℤ (pos x)) (sym (zero-mul d))
signed_times true (suc q) d = refl
signed_times false q d = refl

abs_neg : (n : ℕ) → nat_abs (neg_ℤ (pos n)) ≡ n
abs_neg zero = refl
abs_neg (suc n) = refl

pub abs_times : (u : ℤ) (d : ℕ) → nat_abs (u *ℤ pos d) ≡ nat_abs u * d
abs_times (pos n) d = refl
abs_times (negsuc n) d = abs_neg (suc n * d)

pub abs_signed : (s : Bool) (n : ℕ) → nat_abs (signed s n) ≡ n
abs_signed true n = abs_neg n
abs_signed false n = refl

pub divides : (u : ℤ) (s : Bool) (d n : ℕ) → u *ℤ pos d ≡ signed s n → n % d ≡ 0
divides u s d n h = ap (λ (x : ℕ). x % d) (sym (abs_signed s n) ∙ ap nat_abs (sym h) ∙ abs_times u d) ∙ mul-mod_left (nat_abs u) d

pub measured : (x : Float) → Measured x (units_of x)
measured nan = λ h. h
measured (inf s) = tt
measured (fin s m e) =
    let n = m * up e in
    let d = down e in
    go (ltb (16384 * d) n) (eqb (1024 * n % d) 0) (ltb-true (16384 * d) n) (ltb-false (16384 * d) n) (eqb-true (1024 * n % d) 0) (eqb-false (1024 * n % d) 0)
  where
    go : (a b : Bool) → (a ≡ true → 16384 * down e < m * up e) → (a ≡ false → m * up e ≤ 16384 * down e) → (b ≡ true → 1024 * (m * up e) % down e ≡ 0)
        → (b ≡ false → 1024 * (m * up e) % down e ≡ 0 → ⊥)
        → Measured (fin s m e) (cond a (Err Beyond) (cond b (Ok (signed s (1024 * (m * up e) / down e))) (Err OffGrid)))
    go true b p q r t = p refl
    go false true p q r t = (
      λ g. not-le_of_lt g (q refl),
      signed_times s (1024 * (m * up e) / down e) (down e) ∙ ap (signed s) (whole_exact (1024 * (m * up e)) (down e) (r refl)),
    )
    go false false p q r t = (tt, λ g. not-le_of_lt g (q refl), λ u g. t refl (divides u s (down e) (1024 * (m * up e)) g))

-- ---- from the tests to the outcome
pub past : (s : Bool) (n d : ℕ) → 16384 * d < n → sized s n d ≡ Err Beyond
past s n d h = ap (λ (b : Bool). cond b (Err Beyond) (cond (eqb (1024 * n % d) 0) (Ok (signed s (1024 * n / d))) (Err OffGrid))) (lt-ltb (16384 * d) n h)

within : (s : Bool) (n d : ℕ) → n ≤ 16384 * d → sized s n d ≡ cond (eqb (1024 * n % d) 0) (Ok (signed s (1024 * n / d))) (Err OffGrid)
within s n d h = ap (λ (b : Bool). cond b (Err Beyond) (cond (eqb (1024 * n % d) 0) (Ok (signed s (1024 * n / d))) (Err OffGrid))) (le-ltb (16384 * d) n h)

pub on_grid : (s : Bool) (n d : ℕ) → n ≤ 16384 * d → 1024 * n % d ≡ 0 → sized s n d ≡ Ok (signed s (1024 * n / d))
on_grid s n d h z = within s n d h ∙ ap (λ (b : Bool). cond b (Ok (signed s (1024 * n / d))) (Err OffGrid)) (eq-eqb (1024 * n % d) 0 z)

pub off_grid : (s : Bool) (n d : ℕ) → n ≤ 16384 * d → (1024 * n % d ≡ 0 → ⊥) → sized s n d ≡ Err OffGrid
off_grid s n d h z = within s n d h ∙ ap (λ (b : Bool). cond b (Ok (signed s (1024 * n / d))) (Err OffGrid)) (ne_eqb (1024 * n % d) 0 z)

pub nan_is : (x : Float) → is_nan x ≡ true → units_of x ≡ Err NotNumber
unfolding is_nan
nan_is nan h = refl
nan_is (inf s) h = absurd (false≢true h)
nan_is (fin s m e) h = absurd (false≢true h)

-- `mm < -16384.0`, and `16384.0 < mm`
abbrev least : Float
least = neg (of_bits binary64 0x40d0_0000_0000_0000)

abbrev most : Float
most = of_bits binary64 0x40d0_0000_0000_0000

least_is : least ≡ fin true 1 (pos 14)
unfolding neg
least_is = ap neg limit

low_says : (s : Bool) (m : ℕ) (e : ℤ) → lt (fin s m e) (fin true 1 (pos 14)) ≡ true → 16384 * down e < m * up e
unfolding lt
low_says true m e h = subst (λ (x : ℕ). 16384 * down e < x) (mul-one (m * up e)) (ltb-true (16384 * down e) (m * up e * 1) h)
low_says false m e h = absurd (false≢true h)

high_says : (s : Bool) (m : ℕ) (e : ℤ) → lt (fin false 1 (pos 14)) (fin s m e) ≡ true → 16384 * down e < m * up e
unfolding lt
high_says true m e h = absurd (false≢true h)
high_says false m e h = subst (λ (x : ℕ). 16384 * down e < x) (mul-one (m * up e)) (ltb-true (16384 * down e) (m * up e * 1) h)

pub below_least : (x : Float) → lt x least ≡ true → units_of x ≡ Err Beyond
unfolding lt
below_least nan h = absurd (false≢true h)
below_least (inf s) h = refl
below_least (fin s m e) h = past s (m * up e) (down e) (low_says s m e (ap (lt (fin s m e)) (sym least_is) ∙ h))

not_under_nan : (y : Float) → lt y nan ≡ true → ⊥
unfolding lt
not_under_nan nan h = false≢true h
not_under_nan (inf s) h = false≢true h
not_under_nan (fin s m e) h = false≢true h

pub above_most : (x : Float) → lt most x ≡ true → units_of x ≡ Err Beyond
above_most nan h = absurd (not_under_nan most h)
above_most (inf s) h = refl
above_most (fin s m e) h = past s (m * up e) (down e) (high_says s m e (ap (λ (y : Float). lt y (fin s m e)) (sym limit) ∙ h))

-- neither
in_range : (s : Bool) (m : ℕ) (e : ℤ) → lt (fin s m e) (fin true 1 (pos 14)) ≡ false → lt (fin false 1 (pos 14)) (fin s m e) ≡ false → m * up e ≤ 16384 * down e
unfolding lt
in_range true m e h k = subst (λ (x : ℕ). x ≤ 16384 * down e) (mul-one (m * up e)) (ltb-false (16384 * down e) (m * up e * 1) h)
in_range false m e h k = subst (λ (x : ℕ). x ≤ 16384 * down e) (mul-one (m * up e)) (ltb-false (16384 * down e) (m * up e * 1) k)

-- what holds past the first three tests
pub record Within (x : Float) : Type 0 where
  pub held : fits binary64 x ≡ true
  pub number : is_nan x ≡ false
  pub low : lt x least ≡ false
  pub high : lt most x ≡ false

-- so x is finite, 16,384 at most, and the product is exact
pub record Scaled (x : Float) : Type 0 where
  pub sign : Bool
  pub num : ℕ
  pub den : ℕ
  pub den_pos : 0 < den
  pub top : num ≤ 16384 * den
  pub value : HasValue (product x) sign (1024 * num) den
  pub few : 1024 * num / den ≤ 2 ^ 24
  pub outcome : units_of x ≡ sized sign num den

few_units : (n d : ℕ) → 0 < d → n ≤ 16384 * d → 1024 * n / d ≤ 2 ^ 24
few_units n d D h = le_of_suc-le-suc ((div-lt_iff_lt-mul D).1 bound)
  where
    bound : 1024 * n < 16777217 * d
    bound = omega arith

pub scales : (x : Float) → Within x → Scaled x
unfolding is_nan lt
scales nan w = absurd (true≢false w.number)
scales (inf true) w = absurd (true≢false (ap (lt (inf true)) (sym least_is) ∙ w.low))
scales (inf false) w = absurd (true≢false (ap (λ (y : Float). lt y (inf false)) (sym limit) ∙ w.high))
scales (fin s m e) w =
    let top = in_range s m e (ap (lt (fin s m e)) (sym least_is) ∙ w.low) (ap (λ (y : Float). lt y (fin s m e)) (sym limit) ∙ w.high) in
    record { sign = s; num = m * up e; den = down e; den_pos = down_pos e; top = top; value = scaled s m e (subst T (sym w.held) tt) top; few = few_units (m * up e) (down e) (down_pos e) top; outcome = refl }

-- ---- the code's last tests
pub off : (x : Float) → Within x → ne (trunc binary64 (product x)) (product x) ≡ true → units_of x ≡ Err OffGrid
off x w h =
    let k = scales x w in
    k.outcome ∙ off_grid k.sign k.num k.den k.top (fraction (product x) k.sign (1024 * k.num) k.den k.value k.den_pos k.few h)

even : (x : Float) (w : Within x) → ne (trunc binary64 (product x)) (product x) ≡ false → 1024 * (scales x w).num % (scales x w).den ≡ 0
even x w h = let k = scales x w in no_fraction (product x) k.sign (1024 * k.num) k.den k.value k.den_pos k.few h

whole_is : (x : Float) (w : Within x) → ne (trunc binary64 (product x)) (product x) ≡ false
    → units_of x ≡ Ok (signed (scales x w).sign (1024 * (scales x w).num / (scales x w).den))
whole_is x w h = let k = scales x w in k.outcome ∙ on_grid k.sign k.num k.den k.top (even x w h)

signed_zero : (s : Bool) → signed s 0 ≡ pos 0
signed_zero true = refl
signed_zero false = refl

pub nothing : (x : Float) → Within x → ne (trunc binary64 (product x)) (product x) ≡ false → eq (product x) (of_bits binary64 0) ≡ true → units_of x ≡ Ok (pos 0)
nothing x w h z =
    let k = scales x w in
    whole_is x w h
    ∙ ap (λ (a : ℕ). Ok (signed k.sign (a / k.den))) (is_zero (product x) k.sign (1024 * k.num) k.den k.value z)
    ∙ ap (λ (a : ℕ). Ok (signed k.sign a)) (zero-div k.den)
    ∙ ap Ok (signed_zero k.sign)

pub in_cast : (x : Float) → Within x → ne (trunc binary64 (product x)) (product x) ≡ false → eq (product x) (of_bits binary64 0) ≡ false → T (in_signed binary64 31 (product x))
in_cast x w h z =
    let k = scales x w in casts (product x) k.sign (1024 * k.num) k.den k.value k.den_pos k.few (even x w h) z

pub cast : (x : Float) → Within x → ne (trunc binary64 (product x)) (product x) ≡ false → eq (product x) (of_bits binary64 0) ≡ false → units_of x ≡ Ok (to_signed 31 (product x))
cast x w h z =
    let k = scales x w in
    whole_is x w h ∙ ap Ok (sym (cast_is (product x) k.sign (1024 * k.num) k.den k.value k.den_pos (in_cast x w h z)))
