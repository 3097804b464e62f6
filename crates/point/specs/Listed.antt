-- Lists of coordinates: totals over points, and the bounds that they keep.
use Rattle.std.specs.Prelude.{◌≡◌, ℕ, ◌<◌, List, [], ◌∷◌, map, length, ℤ, pos, ◌+ℤ◌, ◌*ℤ◌, ◌≤ℤ◌, refl}
use Rattle.std.proofs.Common.{sym, ap, ap₂, subst, ◌∙◌, ⊎_elim, arith}
use Rattle.std.proofs.lemmas.Int.{ints}
use Rattle.std.specs.List.{range_with_len}
use Rattle.std.proofs.lemmas.List.FromFn.{get_or-map-range_with_len, length-map-range_with_len, fill_by_all}
use Rattle.std.proofs.lemmas.List.{get_or_past}
use Rattle.std.proofs.lemmas.Bool.{cases_lt}
use Rattle.point.specs.Range.{InRange, Summed}
use Rattle.point.specs.Points.{Point, coordinate, total, totals, one_more, Each, Between}
use Rattle.point.specs.Whole.{times_is, times_more}

-- the numbers of a point one by one are the point
pub coordinates_are : (p : Point) (d : ℕ) → length p ≡ d → p ≡ map (coordinate p) (range_with_len 0 d)
coordinates_are p d l = fill_by_all (coordinate p) p d (pos 0) l (λ k _. refl)

pub totals_at : (d : ℕ) (ps : List Point) (i : ℕ) → i < d → coordinate (totals d ps) i ≡ total (map (λ p. coordinate p i) ps)
totals_at d ps i l = get_or-map-range_with_len (λ j. total (map (λ p. coordinate p j) ps)) 0 d i i (pos 0) l (omega arith)

pub totals_long : (d : ℕ) (ps : List Point) → length (totals d ps) ≡ d
totals_long d ps = length-map-range_with_len (λ j. total (map (λ p. coordinate p j) ps)) 0 d

-- ---- the total of totals
total_zeros : (xs : List ℕ) → total (map (λ _. pos 0) xs) ≡ pos 0
total_zeros [] = refl
total_zeros (x ∷ xs) = omega (arith, ints, total_zeros xs)

total_sums : (f g : ℕ → ℤ) (xs : List ℕ) → total (map (λ i. f i +ℤ g i) xs) ≡ total (map f xs) +ℤ total (map g xs)
total_sums f g [] = refl
total_sums f g (x ∷ xs) = omega (arith, ints, total_sums f g xs)

pub total_one_more : (d : ℕ) (sums : List ℤ) (p : Point) → length sums ≡ d → length p ≡ d → total (one_more d sums p) ≡ total sums +ℤ total p
total_one_more d sums p l m =
    total_sums (coordinate sums) (coordinate p) (range_with_len 0 d) ∙ ap₂ (λ (a b : List ℤ). total a +ℤ total b) (sym (coordinates_are sums d l)) (sym (coordinates_are p d m))

module _ {P : Type 0} (width : ℕ) (numbers : P → Point) where
  pub totals_total : (whole : ℤ) → ((p : P) → length (numbers p) ≡ width) → ((p : P) → total (numbers p) ≡ whole) → (ps : List P) → total (totals width (map numbers ps)) ≡ pos (length ps) *ℤ whole
  totals_total whole l w [] = omega (arith, ints, total_zeros (range_with_len 0 width), times_is 0 whole)
  totals_total whole l w (p ∷ ps) =
      let e = total_sums (coordinate (numbers p)) (λ i. total (map (λ q. coordinate q i) (map numbers ps))) (range_with_len 0 width) in
      let a : total (map (coordinate (numbers p)) (range_with_len 0 width)) ≡ whole = ap total (sym (coordinates_are (numbers p) width (l p))) ∙ w p in
      omega (arith, ints, e, a, totals_total whole l w ps, times_more (length ps) whole)

  -- ---- the bounds of one total
  column_range : ((p : P) (i : ℕ) → InRange (coordinate (numbers p) i)) → (ps : List P) (i : ℕ) → Summed (length ps) (total (map (λ p. coordinate p i) (map numbers ps)))
  column_range w [] i = omega arith
  column_range w (p ∷ ps) i = omega (arith, ints, w p i, column_range w ps i)

  pub totals_range : ((p : P) (i : ℕ) → InRange (coordinate (numbers p) i)) → (ps : List P) (i : ℕ) → Summed (length ps) (coordinate (totals width (map numbers ps)) i)
  totals_range w ps i =
      let T = totals width (map numbers ps) in
      ⊎_elim
      (λ l. subst (Summed (length ps)) (sym (totals_at width (map numbers ps) i l)) (column_range w ps i))
      (λ l. subst (Summed (length ps)) (sym (get_or_past T i (pos 0) (rw (totals_long width (map numbers ps)) l))) (omega arith))
      (cases_lt i width)

  column_least : (i : ℕ) (lo hi : ℤ) (ps : List P) → Each (Between lo hi i) (map numbers ps) → (pos (length ps) *ℤ lo) ≤ℤ total (map (λ p. coordinate p i) (map numbers ps))
  column_least i lo hi [] b = omega (arith, ints, times_is 0 lo)
  column_least i lo hi (p ∷ ps) b = omega (arith, ints, b.0.0, column_least i lo hi ps b.1, times_more (length ps) lo)

  column_most : (i : ℕ) (lo hi : ℤ) (ps : List P) → Each (Between lo hi i) (map numbers ps) → total (map (λ p. coordinate p i) (map numbers ps)) ≤ℤ (pos (length ps) *ℤ hi)
  column_most i lo hi [] b = omega (arith, ints, times_is 0 hi)
  column_most i lo hi (p ∷ ps) b = omega (arith, ints, b.0.1, column_most i lo hi ps b.1, times_more (length ps) hi)

  -- a total lies between as many times the bounds as there are points
  pub totals_between : (i : ℕ) → i < width → (lo hi : ℤ) (ps : List P) → Each (Between lo hi i) (map numbers ps)
      → ((pos (length ps) *ℤ lo) ≤ℤ coordinate (totals width (map numbers ps)) i) × (coordinate (totals width (map numbers ps)) i ≤ℤ (pos (length ps) *ℤ hi))
  totals_between i l lo hi ps b =
      let e = sym (totals_at width (map numbers ps) i l) in (
        subst (λ (z : ℤ). (pos (length ps) *ℤ lo) ≤ℤ z) e (column_least i lo hi ps b),
        subst (λ (z : ℤ). z ≤ℤ (pos (length ps) *ℤ hi)) e (column_most i lo hi ps b),
      )
