-- The columns before i are found.
use Rattle.std.proofs.Common.{◌≡◌, ℕ, ◌<◌, map, length, get_or, pos}
use Rattle.point.specs.Columns.{parts}
use Rattle.point.specs.Points.{coordinate}
use Rattle.point.proofs.tally.Tally.columns.Given as goal

abbrev pub invariant-loop-i : goal.invariant-loop-i
invariant-loop-i g l = (length l.columns ≡ g.row.N) × ((k : ℕ) → k < l.i → get_or (map parts l.columns) k (0, pos 0) ≡ (l.self.count, coordinate l.self.totals k))
