-- The units that the floors leave are dealt out whole.
use Rattle.std.specs.Prelude.{◌≡◌, ℕ, zero, suc, ◌+◌, ◌-◌, ◌*◌, ◌<◌, ◌≤◌, min, Bool, true, false, cond, ◌⊎◌, List, [], ◌∷◌, map, length, ℤ, pos, ◌+ℤ◌, ◌-ℤ◌, ◌*ℤ◌, neg_ℤ, ◌≤ℤ◌, ◌<ℤ◌, refl}
use Rattle.std.proofs.Common.{sym, ap, subst, inl, inr, arith, mul-add}
use Rattle.std.proofs.Math.IntN.{*ℤ_comm}
use borrow.Author.Differences.{ints, lt-true, lt-false}
use Rattle.point.specs.Points.{coordinate, total, Near}
use Rattle.point.specs.Range.{coordinate_limit, InRange, Summed}
use Rattle.point.specs.Dealing.{row_whole, floor_of, leaves, gets, dealt, missing, Down, Raised, Shares}
use Rattle.point.specs.Whole.{times_is, times_sum, times_lt_out, floor_low, floor_high, floor_least, floor_most}

-- one unit where a weight's division leaves a remainder
abbrev left : ℕ → ℤ → ℕ
left k t = cond (leaves k t) 1 0

abbrev lefts : ℕ → List ℤ → ℕ
lefts k [] = 0
lefts k (t ∷ ts) = left k t + lefts k ts

gets_is : (b : Bool) (m n : ℕ) → cond b (min m 1) 0 + min (m - cond b (min m 1) 0) n ≡ min m (cond b 1 0 + n)
gets_is true m n = omega arith
gets_is false m n = omega arith

total_dealt : (k m : ℕ) (ts : List ℤ) → total (dealt k m ts) ≡ total (map (floor_of k) ts) +ℤ pos (min m (lefts k ts))
total_dealt k m [] = omega (arith, ints)
total_dealt k m (t ∷ ts) =
    let g = gets k m t in
    let e = gets_is (leaves k t) m (lefts k ts) in
    let r = total_dealt k (m - g) ts in
    omega (arith, ints, e, r)

-- a weight and its unit, k times, are at least the total
left_high : (k : ℕ) (t : ℤ) → 0 < k → t ≤ℤ ((pos k *ℤ floor_of k t) +ℤ pos (k * left k t))
left_high k t h = go (leaves k t) refl
  where
    go : (b : Bool) → leaves k t ≡ b → t ≤ℤ ((pos k *ℤ floor_of k t) +ℤ pos (k * cond b 1 0))
    go true e = omega (arith, ints, floor_high t k h)
    go false e = omega (arith, ints, lt-false (pos k *ℤ floor_of k t) t e)

floors_low : (k : ℕ) (ts : List ℤ) → 0 < k → (pos k *ℤ total (map (floor_of k) ts)) ≤ℤ total ts
floors_low k [] h = omega (arith, ints, times_is k (pos 0))
floors_low k (t ∷ ts) h = omega (arith, ints, floor_low t k h, floors_low k ts h, times_sum k (floor_of k t) (total (map (floor_of k) ts)))

floors_high : (k : ℕ) (ts : List ℤ) → 0 < k → total ts ≤ℤ (pos k *ℤ (total (map (floor_of k) ts) +ℤ pos (lefts k ts)))
floors_high k [] h = omega (arith, ints, times_is k (pos 0))
floors_high k (t ∷ ts) h =
    let q = floor_of k t in
    let f = total (map (floor_of k) ts) in
    omega (arith, ints, left_high k t h, floors_high k ts h, times_sum k (q +ℤ f) (pos (left k t + lefts k ts)), times_sum k q f, times_sum k f (pos (lefts k ts)), mul-add k (left k t) (lefts k ts))

-- less or equal, where a multiple is
times_le_out : (k : ℕ) (a b : ℤ) → 0 < k → (pos k *ℤ a) ≤ℤ (pos k *ℤ b) → a ≤ℤ b
times_le_out k a b h l =
    let s : (pos k *ℤ a) <ℤ (pos k *ℤ (b +ℤ pos 1)) = omega (arith, ints, times_sum k b (pos 1)) in
    omega (arith, ints, times_lt_out k a (b +ℤ pos 1) s)

pub missing_is : (k : ℕ) (ts : List ℤ) → 0 < k → total ts ≡ pos k *ℤ row_whole → (total (map (floor_of k) ts) +ℤ pos (missing k ts) ≡ row_whole) × (missing k ts ≤ lefts k ts)
missing_is k ts h e =
    let f = total (map (floor_of k) ts) in
    let a : f ≤ℤ row_whole = times_le_out k f row_whole h (subst (λ (z : ℤ). (pos k *ℤ f) ≤ℤ z) e (floors_low k ts h)) in
    let b : row_whole ≤ℤ (f +ℤ pos (lefts k ts)) = times_le_out k row_whole (f +ℤ pos (lefts k ts)) h (subst (λ (z : ℤ). z ≤ℤ (pos k *ℤ (f +ℤ pos (lefts k ts)))) e (floors_high k ts h)) in
    (omega (arith, ints), omega (arith, ints))

lefts_few : (k : ℕ) (ts : List ℤ) → lefts k ts ≤ length ts
lefts_few k [] = omega arith
lefts_few k (t ∷ ts) = let one : left k t ≤ 1 = few (leaves k t) in omega (arith, lefts_few k ts)
  where
    few : (b : Bool) → cond b 1 0 ≤ 1
    few true = omega arith
    few false = omega arith

-- no more units are missing than there are weights
pub missing_few : (k : ℕ) (ts : List ℤ) → 0 < k → total ts ≡ pos k *ℤ row_whole → missing k ts ≤ length ts
missing_few k ts h e = omega (arith, (missing_is k ts h e).1, lefts_few k ts)

pub dealt_whole : (k : ℕ) (ts : List ℤ) → 0 < k → total ts ≡ pos k *ℤ row_whole → total (dealt k (missing k ts) ts) ≡ row_whole
dealt_whole k ts h e =
    let m = missing_is k ts h e in
    omega (arith, ints, total_dealt k (missing k ts) ts, m.0, m.1)

-- ---- one weight
module _ (k : ℕ) (h : 0 < k) (m : ℕ) (t : ℤ) where
  pub weight_near : Near 2 k (floor_of k t +ℤ pos (gets k m t)) t
  weight_near = near (gets k m t) (few (leaves k t))
    where
      few : (b : Bool) → cond b (min m 1) 0 ≤ 1
      few true = omega arith
      few false = omega arith

      near : (g : ℕ) → g ≤ 1 → Near 2 k (floor_of k t +ℤ pos g) t
      near zero l = omega (arith, ints, times_sum k (floor_of k t) (pos 0), floor_low t k h, floor_high t k h, *ℤ_comm (floor_of k t +ℤ pos 0) (pos k))
      near (suc zero) l = omega (arith, ints, times_sum k (floor_of k t) (pos 1), floor_low t k h, floor_high t k h, *ℤ_comm (floor_of k t +ℤ pos 1) (pos k))
      near (suc (suc g)) l = absurd (omega arith)

  pub weight_least : (lo : ℤ) → (pos k *ℤ lo) ≤ℤ t → lo ≤ℤ (floor_of k t +ℤ pos (gets k m t))
  weight_least lo b = omega (arith, ints, floor_least t lo k h b)

  pub weight_most : (hi : ℤ) → t ≤ℤ (pos k *ℤ hi) → (floor_of k t +ℤ pos (gets k m t)) ≤ℤ hi
  weight_most hi b = go (leaves k t) refl
    where
      go : (d : Bool) → leaves k t ≡ d → (floor_of k t +ℤ pos (cond d (min m 1) 0)) ≤ℤ hi
      go true e =
          let q = floor_of k t in
          let s : (pos k *ℤ q) <ℤ (pos k *ℤ hi) = omega (arith, ints, lt-true (pos k *ℤ q) t e) in
          omega (arith, ints, times_lt_out k q hi s)
      go false e = omega (arith, ints, floor_most t hi k h b)

pub floor_range : (k : ℕ) (t : ℤ) → 0 < k → Summed k t → InRange (floor_of k t)
floor_range k t h b =
    let lo : (pos k *ℤ neg_ℤ (pos coordinate_limit)) ≤ℤ t = omega (arith, ints, times_is k (neg_ℤ (pos coordinate_limit))) in
    let hi : t ≤ℤ (pos k *ℤ pos coordinate_limit) = omega (arith, ints, times_is k (pos coordinate_limit)) in
    omega (arith, ints, floor_least t (neg_ℤ (pos coordinate_limit)) k h lo, floor_most t (pos coordinate_limit) k h hi)

pub weight_range : (k : ℕ) (h : 0 < k) (m : ℕ) (t : ℤ) → Summed k t → InRange (floor_of k t +ℤ pos (gets k m t))
weight_range k h m t b =
    let lo : (pos k *ℤ neg_ℤ (pos coordinate_limit)) ≤ℤ t = omega (arith, ints, times_is k (neg_ℤ (pos coordinate_limit))) in
    let hi : t ≤ℤ (pos k *ℤ pos coordinate_limit) = omega (arith, ints, times_is k (pos coordinate_limit)) in
    omega (arith, ints, weight_least k h m t (neg_ℤ (pos coordinate_limit)) lo, weight_most k h m t (pos coordinate_limit) hi)

-- ---- the weights of a mean
pub dealt_long : (k m : ℕ) (ts : List ℤ) → length (dealt k m ts) ≡ length ts
dealt_long k m [] = refl
dealt_long k m (t ∷ ts) = ap suc (dealt_long k (m - gets k m t) ts)

-- some number of units was missing when the weight's turn came
pub dealt_at : (k m : ℕ) (ts : List ℤ) (i : ℕ) → i < length ts → (n : ℕ) × (coordinate (dealt k m ts) i ≡ floor_of k (coordinate ts i) +ℤ pos (gets k n (coordinate ts i)))
dealt_at k m [] i l = absurd (omega arith)
dealt_at k m (t ∷ ts) zero l = (m, refl)
dealt_at k m (t ∷ ts) (suc i) l = dealt_at k (m - gets k m t) ts i (omega arith)

-- a weight is rounded down or raised
module _ (k : ℕ) (h : 0 < k) (t : ℤ) where
  down : Down k t (floor_of k t +ℤ pos 0)
  down =
      let q = floor_of k t in
      let e = times_sum k q (pos 0) in
      (omega (arith, ints, floor_low t k h, e), omega (arith, ints, floor_high t k h, times_sum k (q +ℤ pos 0) (pos 1), e))

  raised : leaves k t ≡ true → Raised k t (floor_of k t +ℤ pos 1)
  raised e =
      let q = floor_of k t in
      let same : q +ℤ pos 1 -ℤ pos 1 ≡ q = omega (arith, ints) in (
        subst (λ (z : ℤ). (pos k *ℤ z) <ℤ t) (sym same) (omega (arith, ints, lt-true (pos k *ℤ q) t e)),
        omega (arith, ints, floor_high t k h, times_sum k q (pos 1)),
      )

  weight_way : (m : ℕ) → Down k t (floor_of k t +ℤ pos (gets k m t)) ⊎ Raised k t (floor_of k t +ℤ pos (gets k m t))
  weight_way m = go (leaves k t) refl m
    where
      go : (b : Bool) → leaves k t ≡ b → (m : ℕ) → Down k t (floor_of k t +ℤ pos (cond b (min m 1) 0)) ⊎ Raised k t (floor_of k t +ℤ pos (cond b (min m 1) 0))
      go false e m = inl down
      go true e zero = inl down
      go true e (suc m) = inr (subst (λ (n : ℕ). Raised k t (floor_of k t +ℤ pos n)) (let o : 1 ≡ min (suc m) 1 = omega arith in o) (raised e))

-- with nothing left each weight is its floor
dealt_none : (k : ℕ) (ts : List ℤ) (i : ℕ) → i < length ts → coordinate (dealt k 0 ts) i ≡ floor_of k (coordinate ts i)
dealt_none k [] i l = absurd (omega arith)
dealt_none k (t ∷ ts) i l = go (gets k 0 t) (none (leaves k t)) i l (dealt_none k ts)
  where
    none : (b : Bool) → cond b (min 0 1) 0 ≡ 0
    none true = refl
    none false = refl

    go : (g : ℕ) → g ≡ 0 → (i : ℕ) → i < suc (length ts) → ((j : ℕ) → j < length ts → coordinate (dealt k 0 ts) j ≡ floor_of k (coordinate ts j)) → coordinate ((floor_of k t +ℤ pos g) ∷ dealt k (0 - g) ts) i ≡ floor_of k (coordinate (t ∷ ts) i)
    go g e zero l rest = omega (arith, ints)
    go g e (suc i) l rest = subst (λ (n : ℕ). coordinate (dealt k n ts) i ≡ floor_of k (coordinate ts i)) (let z : 0 ≡ 0 - g = omega arith in z) (rest i (omega arith))

-- before a weight that got a unit, none is below its mean
first_raised : (k : ℕ) (h : 0 < k) (m : ℕ) (ts : List ℤ) (i j : ℕ) → j < i → i < length ts → Raised k (coordinate ts i) (coordinate (dealt k m ts) i) → coordinate ts j ≤ℤ (pos k *ℤ coordinate (dealt k m ts) j)
first_raised k h m [] i j f l r = absurd (omega arith)
first_raised k h m (t ∷ ts) zero j f l r = absurd (omega arith)
first_raised k h m (t ∷ ts) (suc i) (suc j) f l r = first_raised k h (m - gets k m t) ts i j (omega arith) (omega arith) r
first_raised k h m (t ∷ ts) (suc i) zero f l r = go (leaves k t) refl m r
  where
    go : (b : Bool) → leaves k t ≡ b → (m : ℕ) → Raised k (coordinate ts i) (coordinate (dealt k (m - cond b (min m 1) 0) ts) i) → t ≤ℤ (pos k *ℤ (floor_of k t +ℤ pos (cond b (min m 1) 0)))
    go false e m r = omega (arith, ints, lt-false (pos k *ℤ floor_of k t) t e, times_sum k (floor_of k t) (pos 0))
    go true e zero r = absurd (omega (arith, ints, floor_low (coordinate ts i) k h, (subst (λ (z : ℤ). Raised k (coordinate ts i) z) (dealt_none k ts i (omega arith)) r).1))
    go true e (suc m) r = subst (λ (n : ℕ). t ≤ℤ (pos k *ℤ (floor_of k t +ℤ pos n))) (let o : 1 ≡ min (suc m) 1 = omega arith in o) (omega (arith, ints, floor_high t k h, times_sum k (floor_of k t) (pos 1)))

pub dealt_shares : (k : ℕ) (ts : List ℤ) → 0 < k → total ts ≡ pos k *ℤ row_whole → Shares k ts (dealt k (missing k ts) ts)
dealt_shares k ts h e = record {
  whole = dealt_whole k ts h e;
  each = λ i l.
      let d = dealt_at k (missing k ts) ts i l in
      subst (λ (w : ℤ). Down k (coordinate ts i) w ⊎ Raised k (coordinate ts i) w) (sym d.1) (weight_way k h (coordinate ts i) d.0);
  first = first_raised k h (missing k ts) ts;
}
