-- Points made from numbers, or why not.
use Rattle.std.specs.Prelude.{◌≡◌, ℕ, ◌+◌, Bool, cond, ◌&&◌, List, [], ◌∷◌, ℤ, Some, None, Option, Result, MatchResult, int_le}
use Rattle.point.specs.declared.fault.PointFault.{PointFault}
use Rattle.point.specs.declared.fault.PointFault.TheVariants.{OutOfRange, RowTotal}
use Rattle.point.specs.Range.{in_range}
use Rattle.point.specs.Points.{total}
use Rattle.point.specs.Dealing.{row_whole}

-- the first of some numbers that is out of range, counted from i
abbrev pub range_fault : ℕ → List ℤ → Option PointFault
range_fault i [] = None
range_fault i (z ∷ zs) = cond (in_range z) (range_fault (i + 1) zs) (Some (OutOfRange i))

abbrev pub same_whole : ℤ → ℤ → Bool
same_whole a b = int_le a b && int_le b a

-- a total that is not the one of every row
abbrev pub total_fault : ℤ → Option PointFault
total_fault t = cond (same_whole t row_whole) None (Some (RowTotal t))

-- the first of two faults
abbrev pub or_else : Option PointFault → Option PointFault → Option PointFault
or_else None b = b
or_else (Some e) b = Some e

-- why some weights make no row: a number out of range comes before the total
abbrev pub row_fault : List ℤ → Option PointFault
row_fault zs = or_else (range_fault 0 zs) (total_fault (total zs))

-- the point of these numbers where they have no fault, and else the fault
abbrev pub Makes : {P : Type 0} → (P → List ℤ) → Option PointFault → List ℤ → Result P PointFault → Type 0
Makes numbers fault zs r = MatchResult r (λ p. (fault ≡ None) × (numbers p ≡ zs)) (λ e. fault ≡ Some e)
