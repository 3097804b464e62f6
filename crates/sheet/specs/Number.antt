-- What a number token says.
use Rattle.std.specs.Prelude.{ℕ, zero, suc, ◌-◌, ◌^◌, min, cond, List, [], ◌∷◌, ℤ, pos, negsuc, Some, None, Ok, Err, Option, Result, ◌==◌, nat_le, nat_lt}
use Rattle.std.specs.Str.Parse.{digits_value}
use Rattle.std.specs.Str.{all_ascii_digits}
use Rattle.sheet.specs.declared.fault.TextFault.{TextFault}
use Rattle.sheet.specs.declared.fault.TextFault.TheVariants.{Form, Limit}

-- the number that decimal digits write, of any length
abbrev pub digits_read : List ℕ → Option ℕ
digits_read bs = cond (all_ascii_digits bs) (Some (digits_value 10 bs)) None

-- a numeral without sign: at least one digit, and no zero before another digit
abbrev pub natural : List ℕ → Option ℕ
natural [] = None
natural (c ∷ []) = digits_read (c ∷ [])
natural (c ∷ d ∷ ds) = cond (c == 48) None (digits_read (c ∷ d ∷ ds))

-- a numeral after a minus: not 0
abbrev pub negated : Option ℕ → Option ℤ
negated None = None
negated (Some zero) = None
negated (Some (suc n)) = Some (negsuc n)

abbrev pub plain : Option ℕ → Option ℤ
plain None = None
plain (Some n) = Some (pos n)

-- a numeral that may have a minus in front
abbrev pub integer : List ℕ → Option ℤ
integer [] = None
integer (c ∷ cs) = cond (c == 45) (negated (natural cs)) (plain (natural (c ∷ cs)))

-- two numbers, both with a minus or both without
abbrev pub SameSign : Option ℤ → Option ℤ → Type 0
SameSign None b = ⊥
SameSign (Some (pos m)) None = ⊥
SameSign (Some (pos m)) (Some (pos n)) = Unit {0}
SameSign (Some (pos m)) (Some (negsuc n)) = ⊥
SameSign (Some (negsuc m)) None = ⊥
SameSign (Some (negsuc m)) (Some (pos n)) = ⊥
SameSign (Some (negsuc m)) (Some (negsuc n)) = Unit {0}

-- two tokens that are such numbers
abbrev pub Alike : List ℕ → List ℕ → Type 0
Alike v w = SameSign (integer v) (integer w)

-- what u64 can hold of it
abbrev pub capped : Option ℕ → Option ℕ
capped None = None
capped (Some n) = Some (min n (2 ^ 64 - 1))

-- a number from low to high, of the token at a place
abbrev pub limited : ℕ → ℕ → ℕ → Option ℕ → Result ℕ TextFault
limited low high place None = Err (Form place)
limited low high place (Some n) = cond (nat_le low n) (cond (nat_le n high) (Ok n) (Err (Limit place))) (Err (Limit place))

abbrev pub natural_of : ℕ → ℕ → ℕ → List ℕ → Result ℕ TextFault
natural_of low high place bs = limited low high place (natural bs)

abbrev pub bounded : ℕ → Option ℤ → Result ℤ TextFault
bounded place None = Err (Form place)
bounded place (Some (pos n)) = cond (nat_le n 16777216) (Ok (pos n)) (Err (Limit place))
bounded place (Some (negsuc n)) = cond (nat_lt n 16777216) (Ok (negsuc n)) (Err (Limit place))

-- a coordinate, in units, of the token at a place
abbrev pub coordinate_of : ℕ → List ℕ → Result ℤ TextFault
coordinate_of place bs = bounded place (integer bs)
