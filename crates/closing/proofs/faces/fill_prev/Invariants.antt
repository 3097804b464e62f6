use Rattle.std.proofs.Common.{◌≡◌, ℕ, ◌<◌, length, get_or}
use Rattle.closing.specs.Numbering.{next}
use Rattle.closing.proofs.faces.fill_prev.Given as goal

abbrev pub invariant-loop-h : goal.invariant-loop-h
invariant-loop-h l =
    (length l.prev ≡ length l.initial.prev)
    × ((d : ℕ) → d < l.h → get_or l.prev (next l.lengths d) 0 ≡ d)
