-- Whole numbers: multiples by a natural, and the floor of a quotient.
use Rattle.std.specs.Prelude.{◌≡◌, ℕ, suc, ◌+◌, ◌*◌, ◌/◌, ◌<◌, ℤ, pos, negsuc, ◌+ℤ◌, ◌*ℤ◌, ◌≤ℤ◌, ◌<ℤ◌}
use Rattle.std.proofs.Common.{ap, arith, mul-add, mul_assoc, mul-suc, suc-mul, mod-lt}
use Rattle.std.proofs.Math.Nat.{lt_of_mul-lt-mul_left, div-add-mod}
use borrow.Author.Differences.{up, down, product_is, sum_is_lem, lt_out, at_most_in, below_in, same_in, ints}
use Rattle.std.specs.Int.{int_div_euclid}

-- the parts of a multiple
pub times_is : (k : ℕ) (z : ℤ) → (up (pos k *ℤ z) ≡ k * up z) × (down (pos k *ℤ z) ≡ k * down z)
times_is k z = omega (arith, product_is (pos k) z)

pub times_sum : (k : ℕ) (a b : ℤ) → pos k *ℤ (a +ℤ b) ≡ (pos k *ℤ a) +ℤ (pos k *ℤ b)
times_sum k a b =
    let s = a +ℤ b in
    let e : k * (up s + down a + down b) ≡ k * (down s + up a + up b) = ap (λ (n : ℕ). k * n) (sum_is_lem a b) in
    same_in (pos k *ℤ s) ((pos k *ℤ a) +ℤ (pos k *ℤ b))
    (omega (arith, times_is k s, times_is k a, times_is k b, sum_is_lem (pos k *ℤ a) (pos k *ℤ b), mul-add k (up s + down a) (down b), mul-add k (up s) (down a), mul-add k (down s + up a) (up b), mul-add k (down s) (up a)))

pub times_more : (k : ℕ) (a : ℤ) → pos (suc k) *ℤ a ≡ a +ℤ (pos k *ℤ a)
times_more k a =
    same_in (pos (suc k) *ℤ a) (a +ℤ (pos k *ℤ a))
    (omega (arith, times_is (suc k) a, times_is k a, sum_is_lem a (pos k *ℤ a), suc-mul k (up a), suc-mul k (down a)))

-- a multiple of a multiple
pub times_times : (j k : ℕ) (a : ℤ) → pos (j * k) *ℤ a ≡ pos j *ℤ (pos k *ℤ a)
times_times j k a =
    same_in (pos (j * k) *ℤ a) (pos j *ℤ (pos k *ℤ a))
    (omega (arith, times_is (j * k) a, times_is j (pos k *ℤ a), ap (λ (n : ℕ). j * n) (times_is k a).0, ap (λ (n : ℕ). j * n) (times_is k a).1, mul_assoc j k (up a), mul_assoc j k (down a)))

-- less, where a multiple is less
pub times_lt_out : (k : ℕ) (a b : ℤ) → (pos k *ℤ a) <ℤ (pos k *ℤ b) → a <ℤ b
times_lt_out k a b h =
    below_in a b (lt_of_mul-lt-mul_left k (omega (arith, lt_out _ _ h, times_is k a, times_is k b, mul-add k (up a) (down b), mul-add k (up b) (down a))))

-- the floor of t / k
pub floor_low : (t : ℤ) (k : ℕ) → 0 < k → (pos k *ℤ int_div_euclid t (pos k)) ≤ℤ t
floor_low (pos a) k h = at_most_in (pos k *ℤ pos (a / k)) (pos a) (omega (arith, div-add-mod a k))
floor_low (negsuc a) k h = at_most_in (pos k *ℤ negsuc (a / k)) (negsuc a) (omega (arith, times_is k (negsuc (a / k)), div-add-mod a k, mod-lt a h, mul-suc k (a / k)))

pub floor_high : (t : ℤ) (k : ℕ) → 0 < k → t <ℤ ((pos k *ℤ int_div_euclid t (pos k)) +ℤ pos k)
floor_high (pos a) k h = below_in (pos a) ((pos k *ℤ pos (a / k)) +ℤ pos k) (omega (arith, div-add-mod a k, mod-lt a h))
floor_high (negsuc a) k h =
    let q = negsuc (a / k) in
    below_in (negsuc a) ((pos k *ℤ q) +ℤ pos k) (omega (arith, times_is k q, sum_is_lem (pos k *ℤ q) (pos k), div-add-mod a k, mod-lt a h, mul-suc k (a / k)))

-- the floor of t / k keeps bounds that t keeps k times
pub floor_least : (t lo : ℤ) (k : ℕ) → 0 < k → (pos k *ℤ lo) ≤ℤ t → lo ≤ℤ int_div_euclid t (pos k)
floor_least t lo k h b =
    let q = int_div_euclid t (pos k) in
    let one : (pos k *ℤ (q +ℤ pos 1)) ≡ (pos k *ℤ q) +ℤ (pos k *ℤ pos 1) = times_sum k q (pos 1) in
    let s : (pos k *ℤ lo) <ℤ (pos k *ℤ (q +ℤ pos 1)) = omega (arith, ints, floor_high t k h, one) in
    omega (arith, ints, times_lt_out k lo (q +ℤ pos 1) s)

pub floor_most : (t hi : ℤ) (k : ℕ) → 0 < k → t ≤ℤ (pos k *ℤ hi) → int_div_euclid t (pos k) ≤ℤ hi
floor_most t hi k h b =
    let q = int_div_euclid t (pos k) in
    let one : (pos k *ℤ (hi +ℤ pos 1)) ≡ (pos k *ℤ hi) +ℤ (pos k *ℤ pos 1) = times_sum k hi (pos 1) in
    let s : (pos k *ℤ q) <ℤ (pos k *ℤ (hi +ℤ pos 1)) = omega (arith, ints, floor_low t k h, one) in
    omega (arith, ints, times_lt_out k q (hi +ℤ pos 1) s)
