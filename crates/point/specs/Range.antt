-- The range of a coordinate and of a total of coordinates, and how many points one sum takes.
use Rattle.std.specs.Prelude.{ℕ, ◌*◌, ◌≤◌, Bool, ℤ, nat_le, unsigned_abs}

-- the largest absolute value of a coordinate
abbrev pub coordinate_limit : ℕ
coordinate_limit = 16777216

-- how many points one sum takes
abbrev pub full_count : ℕ
full_count = 64

abbrev pub InRange : ℤ → Type 0
InRange z = unsigned_abs z ≤ coordinate_limit

abbrev pub in_range : ℤ → Bool
in_range z = nat_le (unsigned_abs z) coordinate_limit

-- a total of n coordinates
abbrev pub Summed : ℕ → ℤ → Type 0
Summed n z = unsigned_abs z ≤ n * coordinate_limit
