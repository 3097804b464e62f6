-- Distances between whole numbers, and sums of them.
use Rattle.std.proofs.Common.{◌≡◌, ℕ, suc, ◌+◌, ◌*◌, ◌≤◌, List, [], ◌∷◌, map, length, ℤ, pos, negsuc, ◌+ℤ◌, ◌-ℤ◌, ◌*ℤ◌, neg_ℤ, nat_abs, sym, refl, ap, ◌∙◌, mul-le-mul_right, mul_assoc, suc-mul, mul_comm, add-mul, mul-zero, zero-mul, mul-one, mul-add, mul_left_comm, arith}
use borrow.Author.Differences.{ints, up, down, sum_is_lem, product_is, neg_is, abs_is, same_in}
use Rattle.point.specs.Points.{distance, total, Each}

-- one of the two parts of a whole number is 0, so a product by a natural scales both
times_parts : (a : ℤ) (m : ℕ) → (up (a *ℤ pos m) ≡ up a * m) × (down (a *ℤ pos m) ≡ down a * m)
times_parts a m = let p = product_is a (pos m) in omega (arith, p, mul-zero (up a), mul-zero (down a))

pub scale_add : (a b : ℤ) (m : ℕ) → (a +ℤ b) *ℤ pos m ≡ a *ℤ pos m +ℤ b *ℤ pos m
scale_add a b m =
    let s = sum_is_lem a b in
    let t = ap (λ x. x * m) s in
    same_in _ _ (omega (
      arith,
      times_parts (a +ℤ b) m,
      times_parts a m,
      times_parts b m,
      sum_is_lem (a *ℤ pos m) (b *ℤ pos m),
      t,
      add-mul (up (a +ℤ b) + down a) (down b) m,
      add-mul (up (a +ℤ b)) (down a) m,
      add-mul (down (a +ℤ b) + up a) (up b) m,
      add-mul (down (a +ℤ b)) (up a) m,
    ))

pub scale_scale : (a : ℤ) (m k : ℕ) → (a *ℤ pos m) *ℤ pos k ≡ a *ℤ pos (m * k)
scale_scale a m k =
    same_in _ _ (omega (
      arith,
      times_parts (a *ℤ pos m) k,
      ap (λ x. x * k) (times_parts a m).0,
      ap (λ x. x * k) (times_parts a m).1,
      times_parts a (m * k),
      mul_assoc (up a) m k,
      mul_assoc (down a) m k,
    ))

neg_scale : (b : ℤ) (m : ℕ) → neg_ℤ (b *ℤ pos m) ≡ neg_ℤ b *ℤ pos m
neg_scale b m =
    same_in _ _ (omega (arith, neg_is (b *ℤ pos m), times_parts b m, times_parts (neg_ℤ b) m, ap (λ x. x * m) (neg_is b).0, ap (λ x. x * m) (neg_is b).1))

abs_scale : (a : ℤ) (m : ℕ) → nat_abs (a *ℤ pos m) ≡ nat_abs a * m
abs_scale (pos a) m = refl
abs_scale (negsuc a) m = omega (arith, abs_is (negsuc a *ℤ pos m), times_parts (negsuc a) m, zero-mul m)

pub distance_scale : (a b : ℤ) (m : ℕ) → distance (a *ℤ pos m) (b *ℤ pos m) ≡ distance a b * m
distance_scale a b m =
    ap (λ z. nat_abs (a *ℤ pos m +ℤ z)) (neg_scale b m) ∙ ap nat_abs (sym (scale_add a (neg_ℤ b) m)) ∙ abs_scale (a -ℤ b) m

pub distance_add : (a b c d : ℤ) → distance (a +ℤ c) (b +ℤ d) ≤ distance a b + distance c d
distance_add a b c d = omega (arith, ints)

pub distance_triangle : (a b c : ℤ) → distance a c ≤ distance a b + distance b c
distance_triangle a b c = omega (arith, ints)

pub distance_same : (a : ℤ) → distance a a ≡ 0
distance_same a = omega (arith, ints)

-- sums of two rows of numbers that are pairwise near
pub totals_near : {X : Type 0} (f g : X → ℤ) (p b : ℕ) (xs : List X) → Each (λ x. 2 * distance (f x *ℤ pos p) (g x) ≤ b) xs
    → 2 * distance (total (map f xs) *ℤ pos p) (total (map g xs)) ≤ length xs * b
totals_near f g p b [] h = omega (arith, distance_same (pos 0))
totals_near f g p b (x ∷ xs) h =
    let e = scale_add (f x) (total (map f xs)) p in
    let k : 2 * distance (f x *ℤ pos p +ℤ total (map f xs) *ℤ pos p) (g x +ℤ total (map g xs)) ≤ suc (length xs) * b =
    omega (arith, distance_add (f x *ℤ pos p) (g x) (total (map f xs) *ℤ pos p) (total (map g xs)), totals_near f g p b xs h.1, h.0, suc-mul (length xs) b) in
    rw e k

regroup : (p q k : ℕ) → p * (q * k) ≡ k * p * q
regroup p q k = sym (mul_assoc p q k) ∙ mul_comm (p * q) k ∙ sym (mul_assoc k p q)

bound : (slack a p q k : ℕ) → slack * (a + 1) * (p * (q * k)) ≡ (slack * k * p + k * (slack * a * p)) * q
bound slack a p q k =
    let x : slack * (p * (q * k)) ≡ slack * k * p * q =
    ap (λ y. slack * y) (regroup p q k) ∙ sym (mul_assoc slack (k * p) q) ∙ ap (λ y. y * q) (sym (mul_assoc slack k p)) in
    let y : slack * a * (p * (q * k)) ≡ k * (slack * a * p) * q =
    ap (λ y. slack * a * y) (regroup p q k ∙ mul_assoc k p q) ∙ mul_left_comm (slack * a) k (p * q)
    ∙ ap (λ y. k * y) (sym (mul_assoc (slack * a) p q)) ∙ sym (mul_assoc k (slack * a * p) q) in
    omega (
      arith,
      x,
      y,
      add-mul (slack * k * p) (k * (slack * a * p)) q,
      add-mul (slack * a) slack (p * (q * k)),
      ap (λ z. z * (p * (q * k))) (mul-add slack a 1 ∙ ap (λ z. slack * a + z) (mul-one slack)),
    )

-- the bound on distance, one average further
pub average_near : (c s n : ℤ) (k q p slack a : ℕ)
    → 2 * distance (c *ℤ pos k) s ≤ slack * k → 2 * distance (s *ℤ pos p) n ≤ k * (slack * a * p)
    → 2 * distance (c *ℤ pos (p * (q * k))) (n *ℤ pos q) ≤ slack * (a + 1) * (p * (q * k))
average_near c s n k q p slack a mean sum =
    let e : c *ℤ pos (p * (q * k)) ≡ ((c *ℤ pos k) *ℤ pos p) *ℤ pos q =
    ap (λ x. c *ℤ pos x) (regroup p q k) ∙ sym (scale_scale c (k * p) q) ∙ ap (λ z. z *ℤ pos q) (sym (scale_scale c k p)) in
    let t : 2 * distance ((c *ℤ pos k) *ℤ pos p) n ≤ slack * k * p + k * (slack * a * p) =
    omega (
      arith,
      distance_triangle ((c *ℤ pos k) *ℤ pos p) (s *ℤ pos p) n,
      distance_scale (c *ℤ pos k) s p,
      mul-le-mul_right p mean,
      mul_assoc 2 (distance (c *ℤ pos k) s) p,
    ) in
    let u : 2 * distance (((c *ℤ pos k) *ℤ pos p) *ℤ pos q) (n *ℤ pos q) ≤ (slack * k * p + k * (slack * a * p)) * q =
    omega (arith, distance_scale ((c *ℤ pos k) *ℤ pos p) n q, mul-le-mul_right q t, mul_assoc 2 (distance ((c *ℤ pos k) *ℤ pos p) n) q) in
    rw (e, bound slack a p q k) u
