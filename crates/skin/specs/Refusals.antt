-- Each fault of a skin with its number and the value that it returns.
use Rattle.refusal.specs.declared.Refusal.{Refusal}
use Rattle.refusal.specs.Refusals.{bare, with}
use Rattle.skin.specs.declared.fault.Fault.{Fault}
use Rattle.skin.specs.declared.fault.Fault.TheVariants as fault
use Rattle.skin.specs.declared.fault.Side.TheVariants.{Width, Height}

abbrev pub refusal_of : Fault → Refusal
refusal_of (fault.Short places) = with 1 places
refusal_of fault.TooMany = bare 5
refusal_of fault.Rungs = bare 6
refusal_of (fault.Broken dart) = with 20 dart
refusal_of (fault.Side Width) = with 21 0
refusal_of (fault.Side Height) = with 21 1
