use Rattle.std.proofs.Common.{◌≡◌, ℕ, ◌+◌, ◌<◌, length, get_or}
use Rattle.closing.specs.Numbering.{after}
use Rattle.closing.proofs.faces.fill_face.Given as goal

abbrev pub invariant-loop-i : goal.invariant-loop-i
invariant-loop-i l =
    (length l.place-items ≡ length l.initial.place-items)
    × ((j : ℕ) → j < l.i → get_or l.place-items j 0 ≡ after l.a l.k (l.a + j))
