-- Each fault of a point with its number and the value that it returns.
use Rattle.refusal.specs.declared.Refusal.{Refusal}
use Rattle.refusal.specs.Refusals.{with, with_whole}
use Rattle.point.specs.declared.fault.PointFault.{PointFault}
use Rattle.point.specs.declared.fault.PointFault.TheVariants.{OutOfRange, RowTotal}

abbrev pub refusal_of : PointFault → Refusal
refusal_of (OutOfRange i) = with 3 i
refusal_of (RowTotal t) = with_whole 19 t
