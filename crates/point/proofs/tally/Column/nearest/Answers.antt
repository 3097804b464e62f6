-- The result is the floor of the formula, and fits.
use Rattle.std.proofs.Common.{◌≡◌, ◌*◌, pos, ◌+ℤ◌, ◌*ℤ◌, sym, ◌∙◌, subst, ap₂, arith, w32, w64, to_z, of_z}
use borrow.Author.Differences.{ints}
use Rattle.std.specs.Int.{int_div_euclid}
use Rattle.point.specs.Range.{InRange}
use Rattle.point.specs.Solids.{half_up}
use Rattle.point.specs.Rounding.{half_range}
use Rattle.point.proofs.tally.Column.nearest.Goals as goal

is_half : (c : goal.After-div_euclid) → c.div_euclid.result ≡ half_up c.args.self.count c.args.self.total
is_half c =
    let k = c.args.self.count in
    let s = c.args.self.total in
    let a : to_z w64 (of_z w64 (to_z w64 (of_z w64 (pos 2 *ℤ to_z w64 (of_z w64 s))) +ℤ to_z w64 (of_z w64 c.from-k.result))) ≡ (pos 2 *ℤ s) +ℤ pos k = omega (arith, ints) in
    let b : to_z w64 (of_z w64 (pos 2 *ℤ to_z w64 (of_z w64 c.from-k.result))) ≡ pos (2 * k) = omega (arith, ints) in
    c.div_euclid.ensures ∙ ap₂ int_div_euclid a b

is_small : (c : goal.After-div_euclid) → InRange c.div_euclid.result
is_small c = subst InRange (sym (is_half c)) (half_range c.args.self.count c.args.self.some c.args.self.total c.args.self.ok)

pub returns : goal.returns
returns c =
    let small : InRange c.div_euclid.result = is_small c in
    let back : to_z w32 (of_z w32 (to_z w64 (of_z w64 c.div_euclid.result))) ≡ c.div_euclid.result = omega (arith, ints) in
    record { value = back ∙ is_half c; range = subst InRange (sym back) small }

pub overflow_cast-result : goal.overflow_cast-result
overflow_cast-result c = let small : InRange c.div_euclid.result = is_small c in omega (arith, ints)
