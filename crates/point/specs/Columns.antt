-- Columns: each the total of one coordinate, with the count.
use Rattle.std.specs.Prelude.{ℕ, ℤ}
use Rattle.point.specs.declared.tally.Column.{Column}

-- the count and the total
abbrev pub parts : Column → ℕ × ℤ
parts c = (c.count, c.total)

-- a total with the count k
abbrev pub with_count : ℕ → ℤ → ℕ × ℤ
with_count k t = (k, t)
