-- Points by their coordinates, sums of points, and the laws of a point kind.
use Rattle.std.specs.Prelude.{◌≡◌, ℕ, ◌*◌, ◌<◌, ◌≤◌, cond, List, [], ◌∷◌, map, length, ℤ, pos, ◌+ℤ◌, ◌-ℤ◌, ◌*ℤ◌, ◌≤ℤ◌, Some, None, Option, ◌==◌, nat_lt, slice_index_or, unsigned_abs}
use Rattle.std.specs.List.{range_with_len}
use Rattle.point.specs.Range.{full_count, InRange}

-- a point, by its coordinates in order
abbrev pub Point : Type 0
Point = List ℤ

abbrev pub coordinate : Point → ℕ → ℤ
coordinate p i = slice_index_or p i (pos 0)

abbrev pub total : List ℤ → ℤ
total [] = pos 0
total (x ∷ xs) = x +ℤ total xs

-- each coordinate's total over some points, d being the number of coordinates
abbrev pub totals : ℕ → List Point → List ℤ
totals d ps = map (λ i. total (map (λ p. coordinate p i) ps)) (range_with_len 0 d)

-- totals with one point more
abbrev pub one_more : ℕ → List ℤ → Point → List ℤ
one_more d sums p = map (λ i. slice_index_or sums i (pos 0) +ℤ coordinate p i) (range_with_len 0 d)

-- the distance between two whole numbers
abbrev pub distance : ℤ → ℤ → ℕ
distance a b = unsigned_abs (a -ℤ b)

-- twice the distance of m from t / k is at most the slack
abbrev pub Near : ℕ → ℕ → ℤ → ℤ → Type 0
Near slack k m t = 2 * distance (m *ℤ pos k) t ≤ slack * k

-- P of each element
abbrev pub Each : {X : Type 0} → (X → Type 0) → List X → Type 0
Each P [] = Unit {0}
Each P (x ∷ xs) = P x × Each P xs

-- coordinate i of p is at least lo and at most hi
abbrev pub Between : ℤ → ℤ → ℕ → Point → Type 0
Between lo hi i p = (lo ≤ℤ coordinate p i) × (coordinate p i ≤ℤ hi)

-- What a point kind shows. P are its points, `numbers` their coordinates, `mean` the point of a sum's count and totals.
pub record KindLaws {P : Type 0} (width slack : ℕ) (numbers : P → Point) (mean : ℕ → List ℤ → P) : Type 0 where
  pub some : 1 ≤ width
  pub few : width ≤ 8
  pub loose : slack ≤ 2
  pub sized : (p : P) → length (numbers p) ≡ width
  pub within : (p : P) (i : ℕ) → InRange (coordinate (numbers p) i)
  -- points of the same coordinates are the same
  pub same : (p q : P) → numbers p ≡ numbers q → p ≡ q
  -- twice the distance of each mean coordinate from total over count is at most the slack
  pub near : (ps : List P) → 1 ≤ length ps → length ps ≤ full_count → (i : ℕ) → i < width
      → Near slack (length ps) (coordinate (numbers (mean (length ps) (totals width (map numbers ps)))) i) (coordinate (totals width (map numbers ps)) i)
  -- a mean coordinate lies in the span of that coordinate among the points summed
  pub inside : (ps : List P) → 1 ≤ length ps → length ps ≤ full_count → (i : ℕ) → i < width → (lo hi : ℤ) → Each (Between lo hi i) (map numbers ps)
      → Between lo hi i (numbers (mean (length ps) (totals width (map numbers ps))))

-- an answer for numbers below a count only
abbrev pub below : {X : Type 0} → ℕ → ℕ → X → Option X
below n i x = cond (nat_lt i n) (Some x) None

-- the mean of a sum, or none for a sum of none
abbrev pub mean_answer : {P : Type 0} → (ℕ → List ℤ → P) → ℕ → List ℤ → Option P
mean_answer mean k ts = cond (k == 0) None (Some (mean k ts))
