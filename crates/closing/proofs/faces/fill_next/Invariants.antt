use Rattle.std.proofs.Common.{◌≡◌, ℕ, ◌<◌, length, get_or}
use Rattle.closing.specs.Numbering.{start, next}
use Rattle.closing.proofs.faces.fill_next.Given as goal

abbrev pub invariant-loop-k : goal.invariant-loop-k
invariant-loop-k l =
    (l.a ≡ start l.lengths l.k-index)
    × (length l.next ≡ length l.initial.next)
    × ((d : ℕ) → d < l.a → get_or l.next d 0 ≡ next l.lengths d)
