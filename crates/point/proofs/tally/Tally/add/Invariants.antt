-- The totals before i have their number, and those from i on are as they were.
use Rattle.std.proofs.Common.{◌≡◌, ℕ, ◌<◌, ◌≤◌, length, ◌+ℤ◌}
use Rattle.point.specs.Points.{coordinate}
use Rattle.point.proofs.tally.Tally.add.Given as goal

abbrev pub invariant-loop-i : goal.invariant-loop-i
invariant-loop-i g l =
    (length l.total-items ≡ g.row.N) × ((k : ℕ) → k < l.i → coordinate l.total-items k ≡ coordinate l.self.totals k +ℤ coordinate l.numbers k)
    × ((k : ℕ) → l.i ≤ k → coordinate l.total-items k ≡ coordinate l.self.totals k)
