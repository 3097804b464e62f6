-- The solid kind: x, y and z, each on its own; the mean goes to the nearest whole number, halves up.
use Rattle.std.specs.Prelude.{◌≡◌, ℕ, ◌*◌, ◌<◌, List, [], ◌∷◌, ℤ, pos, ◌+ℤ◌, ◌*ℤ◌, ◌≤ℤ◌, Some, None, Option, refl}
use Rattle.std.proofs.Common.{lit≤}
use Rattle.std.specs.Int.{int_div_euclid}
use Rattle.point.specs.declared.fault.PointFault.{PointFault}
use Rattle.point.specs.declared.solid.SolidRecord.{SolidRecord}
use Rattle.point.specs.declared.solid.SolidPoint.{SolidPoint}
use Rattle.point.specs.declared.solid.SolidSum.{SolidSum}
use Rattle.point.specs.Points.{coordinate, distance, Near}
use Rattle.point.specs.Made.{range_fault}
use Rattle.point.specs.Checked.{all_in_range}

abbrev pub three : ℤ → ℤ → ℤ → List ℤ
three x y z = x ∷ (y ∷ (z ∷ []))

abbrev pub numbers_of : SolidPoint → List ℤ
numbers_of p = three p.x p.y p.z

abbrev pub sums_of : SolidSum → List ℤ
sums_of s = s.tally.totals

abbrev pub count_of : SolidSum → ℕ
count_of s = s.tally.count

abbrev pub origin : SolidPoint
origin = record { x = pos 0; y = pos 0; z = pos 0; ok = (lit≤ tt, lit≤ tt, lit≤ tt) }

-- the point of three numbers, and the origin where they have a fault
abbrev pub point_by : (x y z : ℤ) (fault : Option PointFault) → range_fault 0 (three x y z) ≡ fault → SolidPoint
point_by x y z None e = let f = all_in_range 0 (three x y z) e in record { x = x; y = y; z = z; ok = (f 0, f 1, f 2) }
point_by x y z (Some f) e = origin

abbrev pub point_at : ℤ → ℤ → ℤ → SolidPoint
point_at x y z = point_by x y z (range_fault 0 (three x y z)) refl

abbrev pub meant_by : SolidRecord → SolidPoint
meant_by r = point_at r.x r.y r.z

-- s / k to the nearest whole number, halves up: the floor of (2s + k) / 2k
abbrev pub half_up : ℕ → ℤ → ℤ
half_up k s = int_div_euclid ((pos 2 *ℤ s) +ℤ pos k) (pos (2 * k))

-- the point of the means of a sum's totals
abbrev pub mean_by : ℕ → List ℤ → SolidPoint
mean_by k ts = point_at (half_up k (coordinate ts 0)) (half_up k (coordinate ts 1)) (half_up k (coordinate ts 2))

-- m is a whole number nearest to s / k, and the upper one where two are
pub record Nearest (k : ℕ) (s m : ℤ) : Type 0 where
  pub near : Near 1 k m s
  pub upper : 2 * distance (m *ℤ pos k) s ≡ k → s ≤ℤ (m *ℤ pos k)

-- each coordinate of p is nearest to its total over the count
abbrev pub NearestEach : ℕ → List ℤ → SolidPoint → Type 0
NearestEach k ts p = (i : ℕ) → i < 3 → Nearest k (coordinate ts i) (coordinate (numbers_of p) i)
