-- Whether the faces of a carrier are turned about.
use Rattle.std.specs.Prelude.{◌+◌, ◌%◌, Bool, ◌==◌}
use Rattle.workpiece.specs.Law.{Work}

-- splits plus averages are odd
abbrev pub turned : Work → Bool
turned w = (w.splits + w.averages) % 2 == 1
