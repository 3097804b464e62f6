-- What a millimetre value is in units of 1/1024 mm. A finite `fin s m e` is m * 2 ^ e, negative where s is true, and 2 ^ e is the fraction
-- up e / down e: so its size is the fraction m * up e / down e. Nothing here rounds.
use Rattle.std.specs.Prelude.{◌≡◌, ℕ, ◌*◌, ◌<◌, Bool, true, false, cond, ℤ, pos, ◌*ℤ◌, neg_ℤ, Ok, Err, Result, Float}
use Rattle.std.specs.Float.{nan, inf, fin}
use Rattle.std.specs.Float.Ieee.{up, down}
use Rattle.order.specs.declared.fault.ScaleFault.{ScaleFault}
use Rattle.order.specs.declared.fault.ScaleFault.TheVariants.{NotNumber, Beyond, OffGrid}

abbrev pub units_per_mm : ℕ
units_per_mm = 1024

-- the largest size of a value
abbrev pub limit_mm : ℕ
limit_mm = 16384

-- n with a sign
abbrev pub signed : Bool → ℕ → ℤ
signed s n = cond s (neg_ℤ (pos n)) (pos n)

abbrev pub Number : Float → Type 0
Number nan = ⊥
Number (inf s) = Unit {0}
Number (fin s m e) = Unit {0}

-- the size is more than the limit; an infinity's is
abbrev pub Past : Float → Type 0
Past nan = ⊥
Past (inf s) = Unit {0}
Past (fin s m e) = limit_mm * down e < m * up e

-- x millimetres are u units: u = 1024 * x, multiplied out
abbrev pub Exactly : Float → ℤ → Type 0
Exactly nan u = ⊥
Exactly (inf s) u = ⊥
Exactly (fin s m e) u = u *ℤ pos (down e) ≡ signed s (units_per_mm * (m * up e))

-- not the negative zero
abbrev pub Plain : Float → Type 0
Plain nan = Unit {0}
Plain (inf s) = Unit {0}
Plain (fin true m e) = 0 < m
Plain (fin false m e) = Unit {0}

-- What becomes of a value of x millimetres.
abbrev pub Measured : Float → Result ℤ ScaleFault → Type 0
Measured x (Ok u) = (Past x → ⊥) × Exactly x u
Measured x (Err NotNumber) = Number x → ⊥
Measured x (Err Beyond) = Past x
Measured x (Err OffGrid) = Number x × (Past x → ⊥) × ((u : ℤ) → Exactly x u → ⊥)
