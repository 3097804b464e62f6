-- Multiplying an f64 of size 16,384 at most by 1,024 rounds nothing, at subnormal values too: the exponent grows by ten, and the digits stay.
--
use Rattle.std.proofs.Common.{◌≡◌, ℕ, zero, suc, ◌+◌, ◌-◌, ◌*◌, ◌%◌, ◌^◌, ◌<◌, ◌≤◌, Bool, true, false, ◌&&◌, T, eqb, ltb, leb, ℤ, pos, negsuc, sym, refl, ap, ◌∙◌, subst, le_trans, le_of_eq, le_of_suc-le-suc, lt_of_le_of_lt, lt_irrefl, mul-le-mul_right, zero-lt-suc, mul_assoc, mul_comm, one-mul, lt_of_not-le, mul-one, mul_right_comm, not-le_of_lt, le_of_mul-le-mul_right, lit<, lit≤, eqb→eq, ltb→lt, leb→le, pow-add}
use lib.Pow.{pow-lt}
use lib.Ieee.{Float, fin, binary64, up, down, unlike, round, mul, fits, of_bits}
use lib.Ieee.Digits.{back}
use lib.Ieee.Fits.{and_l, and_r, down_pos}
use lib.Ieee.Exact.{HasValue, round_exact}

-- ---- the constants of the code
pub thousand : of_bits binary64 0x4090_0000_0000_0000 ≡ fin false 1 (pos 10)
unfolding of_bits
thousand = refl

pub limit : of_bits binary64 0x40d0_0000_0000_0000 ≡ fin false 1 (pos 14)
unfolding of_bits
limit = refl

pub nought : of_bits binary64 0 ≡ fin false 0 (pos 0)
unfolding of_bits
nought = refl

-- ---- what it says to fit
digits : (s : Bool) (m : ℕ) (e : ℤ) → T (fits binary64 (fin s m e)) → m < 2 ^ 53
unfolding fits
digits s zero e t = lit< tt
digits s (suc m) e t =
    ltb→lt (suc m) (2 ^ 53) (and_r (eqb (suc m % 2) 1) (ltb (suc m) (2 ^ 53)) (and_l (eqb (suc m % 2) 1 && ltb (suc m) (2 ^ 53)) (leb (down e) (2 ^ 1074))
    (and_l (eqb (suc m % 2) 1 && ltb (suc m) (2 ^ 53) && leb (down e) (2 ^ 1074)) (ltb (suc m * up e) (2 ^ 1024 * down e)) t)))

power_le : (j k : ℕ) → 2 ^ j ≤ 2 ^ k → j ≤ k
power_le j k h = le_of_suc-le-suc (lt_of_not-le (λ (g : suc k ≤ j). not-le_of_lt (pow-lt g) h))

no_power : (k : ℕ) → 1 * 2 ^ suc k ≡ 1 → ⊥
no_power k h = lt_irrefl 1 (subst (λ (x : ℕ). 1 < x) (sym (one-mul (2 ^ suc k)) ∙ h) (pow-lt {i = 0} {j = suc k} (zero-lt-suc k)))

depth : (s : Bool) (m k : ℕ) → T (fits binary64 (fin s m (negsuc k))) → suc k ≤ 1074
unfolding fits
depth s zero k t = absurd (no_power k (eqb→eq (1 * 2 ^ suc k) 1 t))
depth s (suc m) k t =
    power_le (suc k) 1074 (leb→le (2 ^ suc k) (2 ^ 1074) (and_r (eqb (suc m % 2) 1 && ltb (suc m) (2 ^ 53)) (leb (2 ^ suc k) (2 ^ 1074))
    (and_l (eqb (suc m % 2) 1 && ltb (suc m) (2 ^ 53) && leb (2 ^ suc k) (2 ^ 1074)) (ltb (suc m * 1) (2 ^ 1024 * 2 ^ suc k)) t)))

-- ---- in units of the smallest value, 1024 times m * 2 ^ e is m * 2 ^ shift e
shift : ℤ → ℕ
shift (pos k) = k + 1084
shift (negsuc k) = 1084 - suc k

shifted : (s : Bool) (m : ℕ) (e : ℤ) → T (fits binary64 (fin s m e)) → m * up e * 1024 * 2 ^ 1074 ≡ m * 2 ^ shift e * down e
unfolding shift
shifted s m (pos k) t =
    mul_assoc (m * 2 ^ k) 1024 (2 ^ 1074)
    ∙ mul_assoc m (2 ^ k) (2 ^ 1084)
    ∙ ap (λ (x : ℕ). m * x) (sym (pow-add 2 k 1084))
    ∙ sym (mul-one (m * 2 ^ (k + 1084)))
shifted s m (negsuc k) t =
    mul_assoc (m * 1) 1024 (2 ^ 1074)
    ∙ ap (λ (x : ℕ). x * 2 ^ 1084) (mul-one m)
    ∙ ap (λ (x : ℕ). m * 2 ^ x) (sym (back 1084 (suc k) (le_trans (depth s m k t) (lit≤ tt))))
    ∙ ap (λ (x : ℕ). m * x) (pow-add 2 (1084 - suc k) (suc k))
    ∙ sym (mul_assoc m (2 ^ (1084 - suc k)) (2 ^ suc k))

room : (q d n : ℕ) → 0 < d → n ≤ 16384 * d → n * 1024 * 2 ^ 1074 ≡ q * d → q < 2 ^ (1074 + 1024)
room q d n D w h =
    lt_of_le_of_lt
    (le_of_mul-le-mul_right {m = q} {n = 16384 * 1024 * 2 ^ 1074} {k = d}
    (le_trans (le_of_eq (sym h))
    (le_trans (mul-le-mul_right (2 ^ 1074) (mul-le-mul_right 1024 w))
    (le_of_eq (mul_assoc (16384 * d) 1024 (2 ^ 1074) ∙ mul_right_comm 16384 d (1024 * 2 ^ 1074))))) D)
    (lit< tt)

pub exact : (s : Bool) (m : ℕ) (e : ℤ) → T (fits binary64 (fin s m e)) → m * up e ≤ 16384 * down e
    → HasValue (round binary64 s (m * up e * 1024) (down e)) s (m * up e * 1024) (down e)
exact s m e t w =
    round_exact binary64 s (m * up e * 1024) (down e) m (shift e) (down_pos e) (digits s m e t)
    (room (m * 2 ^ shift e) (down e) (m * up e) (down_pos e) w (shifted s m e t)) (shifted s m e t)

pub same_sign : (s : Bool) → unlike s false ≡ s
same_sign true = refl
same_sign false = refl

mul_is : (s : Bool) (m : ℕ) (e : ℤ) → mul binary64 (fin s m e) (fin false 1 (pos 10)) ≡ round binary64 s (m * up e * 1024) (down e)
unfolding mul
mul_is s m e =
    ap (λ (t : Bool). round binary64 t (m * up e * 1024) (down e * 1)) (same_sign s)
    ∙ ap (λ (d : ℕ). round binary64 s (m * up e * 1024) d) (mul-one (down e))

-- the code's product, `mm * 1024.0`
abbrev pub product : Float → Float
product x = mul binary64 x (of_bits binary64 0x4090_0000_0000_0000)

pub scaled : (s : Bool) (m : ℕ) (e : ℤ) → T (fits binary64 (fin s m e)) → m * up e ≤ 16384 * down e
    → HasValue (product (fin s m e)) s (1024 * (m * up e)) (down e)
scaled s m e t w =
    subst (λ (y : Float). HasValue y s (1024 * (m * up e)) (down e)) (sym (ap (mul binary64 (fin s m e)) thousand ∙ mul_is s m e))
    (subst (λ (a : ℕ). HasValue (round binary64 s (m * up e * 1024) (down e)) s a (down e)) (mul_comm (m * up e) 1024) (exact s m e t w))
