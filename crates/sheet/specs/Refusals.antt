-- Each text fault with its number and the value that it returns.
use Rattle.refusal.specs.declared.Refusal.{Refusal}
use Rattle.refusal.specs.Refusals.{with}
use Rattle.sheet.specs.declared.fault.TextFault.{TextFault}
use Rattle.sheet.specs.declared.fault.TextFault.TheVariants as fault

abbrev pub refusal_of : TextFault → Refusal
refusal_of (fault.Short places) = with 1 places
refusal_of (fault.Form place) = with 8 place
refusal_of (fault.Limit place) = with 9 place
