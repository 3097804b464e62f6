use Rattle.std.proofs.Common.{◌≡◌, None}
use Rattle.mesh.specs.Smallest.{smallest}
use Rattle.closing.specs.Numbering.{start}
use Rattle.closing.specs.Sheet.{twice}
use Rattle.closing.specs.Whole.{whole}
use Rattle.closing.proofs.faces.first_twice.Given as goal

abbrev pub invariant-loop-k : goal.invariant-loop-k
invariant-loop-k l = (l.a ≡ start (whole l.sheet).lengths l.k-index) × (smallest l.k-index (twice (whole l.sheet)) ≡ None)
