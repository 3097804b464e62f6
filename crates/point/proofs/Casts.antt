-- Coordinates and totals that went to bits and came back.
use Rattle.std.proofs.Common.{◌≡◌, ℕ, ◌≤◌, ℤ, pos, ◌+ℤ◌, arith, w32, w64, to_z, of_z}
use borrow.Author.Differences.{ints}
use Rattle.point.specs.Range.{full_count, InRange, Summed}

pub back32 : (z : ℤ) → InRange z → to_z w32 (of_z w32 z) ≡ z
back32 z h = omega (arith, ints)

pub back64 : (n : ℕ) (z : ℤ) → n ≤ full_count → Summed n z → to_z w64 (of_z w64 z) ≡ z
back64 n z f h = omega (arith, ints)

pub added : (n : ℕ) (t v z : ℤ) → n ≤ full_count → Summed n t → InRange z → v ≡ to_z w32 (of_z w32 z) → to_z w64 (of_z w64 (to_z w64 (of_z w64 t) +ℤ to_z w64 (of_z w64 v))) ≡ t +ℤ z
added n t v z f h k e = omega (arith, ints)

pub raised : (q : ℤ) (e : ℕ) → InRange q → e ≤ 1 → to_z w32 (of_z w32 (to_z w32 (of_z w32 q) +ℤ to_z w32 e)) ≡ q +ℤ pos e
raised q e h l = omega (arith, ints)
