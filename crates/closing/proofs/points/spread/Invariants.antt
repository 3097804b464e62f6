use Rattle.closing.specs.Spread.{Spread}
use Rattle.closing.proofs.points.spread.Given as goal

abbrev pub invariant-loop-h : goal.invariant-loop-h
invariant-loop-h g l = Spread l.h l.corners l.points l.initial.place-items l.place-items
