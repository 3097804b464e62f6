use Rattle.std.proofs.Common.{◌≡◌, ℕ, ◌<◌, length, get_or, None}
use Rattle.mesh.specs.Smallest.{smallest}
use Rattle.closing.specs.Sheet.{single, twin}
use Rattle.closing.specs.Whole.{whole}
use Rattle.closing.proofs.edges.Edges.fill_twin.Given as goal

abbrev pub invariant-loop-h : goal.invariant-loop-h
invariant-loop-h l =
    (length l.twin ≡ length l.initial.twin)
    × (smallest l.h (single (whole l.self.sheet)) ≡ None)
    × ((d : ℕ) → d < l.h → get_or l.twin d 0 ≡ twin (whole l.self.sheet) d)
