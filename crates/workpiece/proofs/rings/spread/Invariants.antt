-- What the loop down the darts keeps.
use Rattle.std.proofs.Common.{map}
use Rattle.workpiece.proofs.Fours.{Down}
use Rattle.point.specs.Kinds.{place}
use Rattle.workpiece.proofs.rings.spread.Given as goal

abbrev pub invariant-loop-h : goal.invariant-loop-h
invariant-loop-h g l = Down l.n (map (place g.K.PointKind) l.initial.table) l.h (map (place g.K.PointKind) l.table)
