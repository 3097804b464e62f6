-- Each fault of writing with its number and the value that it returns.
use Rattle.std.specs.Prelude.{Some, None, Option}
use Rattle.refusal.specs.declared.Refusal.{Refusal}
use Rattle.refusal.specs.Refusals.{with}
use Rattle.writer.specs.declared.fault.WriteFault.{WriteFault}
use Rattle.writer.specs.declared.fault.WriteFault.TheVariants.{Points, Buffer, Memory}

-- want of memory is no refusal, and has none
abbrev pub refusal_of : WriteFault → Option Refusal
refusal_of (Points places) = Some (with 1 places)
refusal_of (Buffer places) = Some (with 1 places)
refusal_of Memory = None
