-- The nearest whole number to a quotient, halves up.
use Rattle.std.specs.Prelude.{ℕ, ◌*◌, ◌<◌, ℤ, pos, ◌+ℤ◌, ◌*ℤ◌, neg_ℤ, ◌≤ℤ◌, ◌<ℤ◌}
use Rattle.std.proofs.Common.{arith}
use Rattle.std.proofs.Math.IntN.{*ℤ_comm}
use Rattle.std.proofs.lemmas.Int.{ints}
use Rattle.point.specs.Range.{coordinate_limit, InRange, Summed}
use Rattle.point.specs.Solids.{half_up, Nearest}
use Rattle.point.specs.Whole.{times_is, times_sum, times_times, times_lt_out, floor_low, floor_high, floor_least}

module _ (k : ℕ) (h : 0 < k) (s : ℤ) where
  abbrev t : ℤ
  t = (pos 2 *ℤ s) +ℤ pos k

  room : 0 < 2 * k
  room = omega arith

  pub half_nearest : Nearest k s (half_up k s)
  half_nearest =
      let m = half_up k s in
      let low = floor_low t (2 * k) room in
      let high = floor_high t (2 * k) room in
      let twice = times_times 2 k m in
      let turned = *ℤ_comm m (pos k) in
      record { near = omega (arith, ints, low, high, twice, turned); upper = λ e. omega (arith, ints, low, high, twice, turned, e) }

  pub half_least : (lo : ℤ) → (pos k *ℤ lo) ≤ℤ s → lo ≤ℤ half_up k s
  half_least lo b =
      let c : (pos (2 * k) *ℤ lo) ≤ℤ t = omega (arith, ints, times_times 2 k lo) in
      floor_least t lo (2 * k) room c

  pub half_most : (hi : ℤ) → s ≤ℤ (pos k *ℤ hi) → half_up k s ≤ℤ hi
  half_most hi b =
      let m = half_up k s in
      let n : (pos (2 * k) *ℤ m) <ℤ (pos (2 * k) *ℤ (hi +ℤ pos 1)) =
      omega (arith, ints, floor_low t (2 * k) room, times_times 2 k hi, times_sum (2 * k) hi (pos 1)) in
      omega (arith, ints, times_lt_out (2 * k) m (hi +ℤ pos 1) n)

  pub half_range : Summed k s → InRange (half_up k s)
  half_range b =
      let lo : (pos k *ℤ neg_ℤ (pos coordinate_limit)) ≤ℤ s = omega (arith, ints, times_is k (neg_ℤ (pos coordinate_limit))) in
      let hi : s ≤ℤ (pos k *ℤ pos coordinate_limit) = omega (arith, ints, times_is k (pos coordinate_limit)) in
      omega (arith, ints, half_least (neg_ℤ (pos coordinate_limit)) lo, half_most (pos coordinate_limit) hi)
