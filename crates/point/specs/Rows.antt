-- The pull row kind: a weight for each handle, of a fixed total.
use Rattle.std.specs.Prelude.{◌≡◌, ℕ, cond, List, map, length, ℤ, pos, Some, None, Option, ◌==◌, refl}
use Rattle.std.specs.List.{range_with_len}
use Rattle.std.proofs.lemmas.List.FromFn.{length-map-range_with_len}
use Rattle.point.specs.declared.fault.PointFault.{PointFault}
use Rattle.point.specs.declared.row.PullRecord.{PullRecord}
use Rattle.point.specs.declared.row.PullRow.{PullRow}
use Rattle.point.specs.declared.row.PullSum.{PullSum}
use Rattle.point.specs.Points.{coordinate}
use Rattle.point.specs.Made.{row_fault}
use Rattle.point.specs.Checked.{row_in_range, row_total}
use Rattle.point.specs.Dealing.{handle_count, row_whole, dealt, missing}

abbrev pub numbers_of : PullRow → List ℤ
numbers_of p = p.weights

abbrev pub sums_of : PullSum → List ℤ
sums_of s = s.tally.totals

abbrev pub count_of : PullSum → ℕ
count_of s = s.tally.count

-- all weight on one handle, counted from 0
abbrev pub all_on : ℕ → List ℤ
all_on handle = map (λ i. cond (i == handle) row_whole (pos 0)) (range_with_len 0 handle_count)

abbrev pub first : PullRow
first = record { weights = all_on 0; long = refl; ok = row_in_range (all_on 0) refl; whole = refl }

-- one number for each handle: a list as long as a row is itself
abbrev pub fitted : List ℤ → List ℤ
fitted zs = map (coordinate zs) (range_with_len 0 handle_count)

pub fitted_long : (zs : List ℤ) → length (fitted zs) ≡ handle_count
fitted_long zs = length-map-range_with_len (coordinate zs) 0 handle_count

-- the row of some weights, and all weight on the first handle where they have a fault
abbrev pub row_by : (zs : List ℤ) → length zs ≡ handle_count → (fault : Option PointFault) → row_fault zs ≡ fault → PullRow
row_by zs l None e = record { weights = zs; long = l; ok = row_in_range zs e; whole = row_total zs e }
row_by zs l (Some f) e = first

abbrev pub row_at : List ℤ → PullRow
row_at zs = row_by (fitted zs) (fitted_long zs) (row_fault (fitted zs)) refl

abbrev pub meant_by : PullRecord → PullRow
meant_by r = row_at r.weights

-- the row of the floors of the means of a sum's totals, with the missing units dealt out
abbrev pub mean_by : ℕ → List ℤ → PullRow
mean_by k ts = row_at (dealt k (missing k ts) ts)
