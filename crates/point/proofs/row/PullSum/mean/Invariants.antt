-- The weights before i are dealt, those from i on are floors, and what is left goes to them.
use Rattle.std.proofs.Common.{◌≡◌, ℕ, ◌≤◌, ◌++◌, map, length, take, drop}
use Rattle.point.specs.Dealing.{handle_count, floor_of, dealt, missing}
use Rattle.point.specs.Points.{coordinate}
use Rattle.point.proofs.row.PullSum.mean.Given as goal

abbrev pub invariant-loop-i : goal.invariant-loop-i
invariant-loop-i l =
    let s = l.self.tally in
    (length l.weight-items ≡ handle_count) × (take l.i l.weight-items ++ dealt s.count l.left (drop l.i s.totals) ≡ dealt s.count (missing s.count s.totals) s.totals)
    × ((k : ℕ) → l.i ≤ k → coordinate l.weight-items k ≡ coordinate (map (floor_of s.count) s.totals) k)
