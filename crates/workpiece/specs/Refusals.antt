-- Each fault of a workpiece with its number and the value that it returns.
use Rattle.refusal.specs.declared.Refusal.{Refusal}
use Rattle.refusal.specs.Refusals.{bare, with}
use Rattle.workpiece.specs.declared.fault.WorkFault.{WorkFault}
use Rattle.workpiece.specs.declared.fault.WorkFault.TheVariants.{Short, NoDart, Differs, TooManyDarts, SplitsSpent, AveragesSpent}

abbrev pub refusal_of : WorkFault → Refusal
refusal_of (Short places) = with 1 places
refusal_of (NoDart dart) = with 2 dart
refusal_of (Differs dart) = with 4 dart
refusal_of TooManyDarts = bare 5
refusal_of SplitsSpent = bare 6
refusal_of AveragesSpent = bare 7
