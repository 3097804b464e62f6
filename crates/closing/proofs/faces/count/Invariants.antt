use Rattle.std.proofs.Common.{◌≡◌, ◌≤◌}
use Rattle.closing.specs.Numbering.{start}
use Rattle.closing.proofs.faces.count.Given as goal

abbrev pub invariant-loop-k : goal.invariant-loop-k
invariant-loop-k l = (l.sum ≡ start l.lengths l.k-index) × (l.sum ≤ 1048576)
