-- The exact fractions, reckoned beside a workpiece from the skin and the points opened and from the calls alone.
use Rattle.std.specs.Prelude.{ℕ, zero, suc, ◌+◌, ◌*◌, ◌/◌, ◌^◌, Bool, cond, ◌&&◌, List, [], ◌∷◌, map, length, take, ℤ, pos, ◌*ℤ◌, nat_le, nat_lt, slice_index_or}
use Rattle.mesh.specs.Mesh.{Mesh, turn, ring, among, dual, quad}
use Rattle.point.specs.Points.{Point, coordinate, total}

-- 1 · 2 · .. · k
unfoldable pub factorial : ℕ → ℕ
factorial zero = 1
factorial (suc k) = suc k * factorial k

-- the product of 1 to 64, which every ring length divides
unfoldable pub common : ℕ
common = factorial 64

-- What is reckoned. The exact fraction of coordinate i of dart h is `exact h i` over `common` to the power of the averages.
pub record Reckoning : Type 0 where
  -- the mesh opened, and the one whose vertices carry the points by now
  pub opened : Mesh
  pub carrier : Mesh
  -- the splits and the averages accepted
  pub splits : ℕ
  pub averages : ℕ
  pub exact : ℕ → ℕ → ℤ
  -- the points opened with or placed
  pub entered : List Point

-- A call, with how many places of the table are handed over; a place and a read with their dart, a place with its point.
pub data Call : Type 0 where
  split : ℕ → Call
  average : ℕ → Call
  place : ℕ → ℕ → Point → Call
  read : ℕ → ℕ → Call
  count : ℕ → Call

-- m is opened, with the points of a table
abbrev pub opening : Mesh → List Point → Reckoning
opening m table = record {
  opened = m;
  carrier = m;
  splits = 0;
  averages = 0;
  exact = λ h i. coordinate (slice_index_or table h []) i *ℤ pos (common ^ 0);
  entered = take m.n table;
}

-- the carrier becomes the Dual of its Quad; darts 4h to 4h + 3 have the numbers of h
abbrev pub after_split : Reckoning → Reckoning
after_split R = record {
  opened = R.opened;
  carrier = dual (quad R.carrier);
  splits = R.splits + 1;
  averages = R.averages;
  exact = λ x i. R.exact (x / 4) i;
  entered = R.entered;
}

-- each dart has the sum over its face ring of k darts, times common / k; the carrier becomes its Dual
abbrev pub after_average : Reckoning → Reckoning
after_average R = record {
  opened = R.opened;
  carrier = dual R.carrier;
  splits = R.splits;
  averages = R.averages + 1;
  exact = λ h i. total (map (λ d. R.exact d i) (ring R.carrier.next h)) *ℤ pos (common / length (ring R.carrier.next h));
  entered = R.entered;
}

-- the whole vertex ring of d has the point p
abbrev pub after_place : Reckoning → ℕ → Point → Reckoning
after_place R d p = record {
  opened = R.opened;
  carrier = R.carrier;
  splits = R.splits;
  averages = R.averages;
  exact = λ h i. cond (among h (ring (turn R.carrier) d)) (coordinate p i *ℤ pos (common ^ R.averages)) (R.exact h i);
  entered = p ∷ R.entered;
}

-- A split is accepted below eight splits, where four times the darts are at most 1,048,576 and have a place each.
abbrev pub may_split : ℕ → ℕ → ℕ → Bool
may_split splits n len = nat_lt splits 8 && (nat_le (4 * n) 1048576 && nat_le (4 * n) len)

-- An average is accepted where each dart has a place, below 255 averages.
abbrev pub may_average : ℕ → ℕ → ℕ → Bool
may_average averages n len = nat_le n len && nat_lt averages 255

-- A place and a read are accepted where each dart has a place and d is a dart.
abbrev pub may_reach : ℕ → ℕ → ℕ → Bool
may_reach d n len = nat_le n len && nat_lt d n

-- one call more; a call that is declined leaves all as it is
abbrev pub step : Reckoning → Call → Reckoning
step R (split len) = cond (may_split R.splits R.carrier.n len) (after_split R) R
step R (average len) = cond (may_average R.averages R.carrier.n len) (after_average R) R
step R (place len d p) = cond (may_reach d R.carrier.n len) (after_place R d p) R
step R (read len d) = R
step R (count len) = R

-- a history of calls more
abbrev pub steps : Reckoning → List Call → Reckoning
steps R [] = R
steps R (c ∷ cs) = steps (step R c) cs
