-- The worked figures of the scale: 0.5, 16,384, 0.1 and 16,384.5 mm as a first coordinate.
use Rattle.std.specs.Prelude.{◌≡◌, ℕ, false, List, [], ◌∷◌, ℤ, pos, Ok, Err, Result, Float}
use Rattle.std.specs.Float.{binary64}
use Rattle.std.specs.Float.Ieee.{round}
use Rattle.refusal.specs.declared.Refusal.{Refusal}
use Rattle.refusal.specs.Refusals.{with}
use Rattle.order.specs.declared.fault.ScaleFault.{ScaleFault}
use Rattle.order.specs.declared.fault.OrderFault.TheVariants.{Value}
use Rattle.order.specs.Scale.{Measured}
use Rattle.order.specs.Refusals.{refusal_of}

-- what is told of x millimetres as a first coordinate: the units, or the refusal
abbrev pub Told : Float → Result ℤ Refusal → Type 0
Told x (Ok u) = Measured x (Ok u)
Told x (Err r) = (f : ScaleFault) × Measured x (Err f) × (r ≡ refusal_of (Value 0 f))

abbrev pub worked : List (Result ℤ Refusal)
worked = Ok (pos 512) ∷ (Ok (pos 16777216) ∷ (Err (with 18 0) ∷ (Err (with 3 0) ∷ [])))

-- the f64 nearest to a / b
unfoldable pub nearest_to : ℕ → ℕ → Float
nearest_to a b = round binary64 false a b

pub record Figures : Type 0 where
  pub half : Told (nearest_to 1 2) (Ok (pos 512))
  pub limit : Told (nearest_to 16384 1) (Ok (pos 16777216))
  pub tenth : Told (nearest_to 1 10) (Err (with 18 0))
  pub beyond : Told (nearest_to 32769 2) (Err (with 3 0))
