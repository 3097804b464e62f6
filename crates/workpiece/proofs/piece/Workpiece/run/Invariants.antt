-- What the loop over the steps keeps: those before i are made and answered.
use Rattle.std.proofs.Common.{take}
use Rattle.workpiece.specs.Runs.{Ran}
use Rattle.workpiece.proofs.piece.Workpiece.run.Given as goal

abbrev pub invariant-loop-i : goal.invariant-loop-i
invariant-loop-i g l = Ran g.S.Skin g.K.PointKind (take l.i l.steps) l.initial.self l.initial.table (take l.i l.wanted) l.self l.table
