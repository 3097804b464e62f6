-- A refusal by its number and the value that it returns.
use Rattle.std.specs.Prelude.{ℕ, ℤ, pos, Some, None}
use Rattle.refusal.specs.declared.Refusal.{Refusal}

-- a refusal that returns nothing
abbrev pub bare : ℕ → Refusal
bare k = record { number = k; value = None }

-- a refusal that returns a number from 0
abbrev pub with : ℕ → ℕ → Refusal
with k v = record { number = k; value = Some (pos v) }

-- a refusal that returns a whole number
abbrev pub with_whole : ℕ → ℤ → Refusal
with_whole k v = record { number = k; value = Some v }
