-- The total of the weights so far, which is no more than so many numbers can give.
use Rattle.std.proofs.Common.{◌≡◌, ◌*◌, ◌≤◌, take, nat_abs}
use Rattle.point.specs.Points.{total}
use Rattle.point.proofs.row.kind.row_total.Given as goal

abbrev pub invariant-loop-weight : goal.invariant-loop-weight
invariant-loop-weight l = (l.total ≡ total (take l.weight-index l.weights)) × (nat_abs l.total ≤ l.weight-index * 2147483648)
