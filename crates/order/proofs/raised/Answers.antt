-- `raised` meets its contract: x and y stay, and z plus the units is in range or refused.
use Rattle.std.proofs.Common.{◌≡◌, ◌+ℤ◌, arith, w32, to_z, of_z}
use borrow.Author.Differences.{ints}
use Rattle.point.specs.Range.{InRange}
use Rattle.std.proofs.lemmas.Result.{err_from_is_err_and}
use Rattle.order.proofs.Outcomes.{raised_ok, raised_out, units_few}
use Rattle.order.proofs.raised.Goals as goal

pub overflow_add-z : goal.overflow_add-z
overflow_add-z c = let few : InRange c.in_ok-by.by = units_few c.args.mm c.in_ok-by.by c.in_ok-by.ensures in omega (arith, ints)

pub returns-in_err-new : goal.returns-in_err-new
returns-in_err-new c =
    let p = err_from_is_err_and c.from_residual-in_err-new.result c.from_residual-in_err-new.ensures.1 in
    let by = c.in_ok-by.by in
    let few : InRange by = units_few c.args.mm by c.in_ok-by.ensures in
    let ex : to_z w32 (of_z w32 c.x.result) ≡ c.args.old.x = omega (arith, ints) in
    let ey : to_z w32 (of_z w32 c.y.result) ≡ c.args.old.y = omega (arith, ints) in
    let ez : to_z w32 (of_z w32 (to_z w32 (of_z w32 c.z.result) +ℤ to_z w32 (of_z w32 by))) ≡ c.args.old.z +ℤ by = omega (arith, ints) in
    rw (p.1, p.2) (raised_out c.args.mm c.args.old by _ c.in_ok-by.ensures (simp (ex, ey, ez) at c.in_err-new.ensures))

pub returns : goal.returns
returns c =
    let by = c.in_ok-by.by in
    let few : InRange by = units_few c.args.mm by c.in_ok-by.ensures in
    let ex : to_z w32 (of_z w32 c.x.result) ≡ c.args.old.x = omega (arith, ints) in
    let ey : to_z w32 (of_z w32 c.y.result) ≡ c.args.old.y = omega (arith, ints) in
    let ez : to_z w32 (of_z w32 (to_z w32 (of_z w32 c.z.result) +ℤ to_z w32 (of_z w32 by))) ≡ c.args.old.z +ℤ by = omega (arith, ints) in
    raised_ok c.args.mm c.args.old _ by c.in_ok-by.ensures (simp (ex, ey, ez) at c.in_ok-new.ensures.1)
