use Rattle.std.proofs.Common.{◌≡◌, ℕ, ◌-◌, ◌<◌, ◌≤◌}
use Rattle.mesh.specs.Mesh.{times, turn}
use Rattle.closing.specs.Sheet.{darts, mesh}
use Rattle.closing.specs.Whole.{whole}
use Rattle.closing.proofs.vertices.Rings.ring_length.Given as goal

abbrev pub invariant-loop-d : goal.invariant-loop-d
invariant-loop-d l =
    (l.d ≡ times l.k (turn (mesh (whole l.self.edges.sheet))) l.h)
    × (0 < l.k) × (l.k ≤ darts (whole l.self.edges.sheet))
    × ((j : ℕ) → 0 < j → j < l.k → times j (turn (mesh (whole l.self.edges.sheet))) l.h ≡ l.h → ⊥)

abbrev pub decreases-loop-d : goal.decreases-loop-d
decreases-loop-d l = darts (whole l.self.edges.sheet) - l.k
