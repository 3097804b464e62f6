-- What a program prints for a refusal.
use Rattle.std.specs.Prelude.{Some, None, Option, ℤ, ℕ, List, [], ◌++◌, pos, codes, decimal}
use Rattle.std.specs.Option.{unwrap_or}
use Rattle.std.specs.Fmt.{signed_decimal}
use Rattle.refusal.specs.declared.Refusal.{Refusal}
use Rattle.refusal.specs.declared.Layer.{Layer}
use Rattle.refusal.specs.declared.Layer.TheVariants.{Text, Skin}
use Rattle.refusal.specs.declared.Refused.{Refused}

-- a blank and the value, or nothing where none is returned
abbrev pub value_told : Option ℤ → List ℕ
value_told None = []
value_told (Some v) = codes " " ++ signed_decimal v

-- the number, and the value where one is returned
abbrev pub told : Refusal → List ℕ
told x = decimal x.number ++ value_told x.value

abbrev pub word : Layer → List ℕ
word Text = codes "text"
word Skin = codes "skin"

-- the number, the value or 0 where none is returned, and the layer
abbrev pub line : Refused → List ℕ
line x =
    codes "refused " ++ (decimal x.refusal.number ++ (codes " " ++ (signed_decimal (unwrap_or x.refusal.value (pos 0))
    ++ (codes " " ++ (word x.layer ++ codes "\n")))))
