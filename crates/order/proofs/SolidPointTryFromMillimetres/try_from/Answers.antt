-- The point of some millimetres: the first value without units decides, and else the units make a point.
use Rattle.std.proofs.Common.{arith, lit<, w32, SFits, rules}
use Rattle.std.proofs.lemmas.Int.{to_z-of_z}
use Rattle.std.proofs.lemmas.Result.{err_from_is_err_and}
use Rattle.order.proofs.Outcomes.{put_ok, put_err, before_y, before_z, no_fault, units_few}
use Rattle.order.proofs.SolidPointTryFromMillimetres.try_from.Goals as goal

pub returns-in_err-x : goal.returns-in_err-x
returns-in_err-x c =
    let p = err_from_is_err_and c.from_residual.result c.from_residual.ensures.1 in
    rw (p.1, p.2) (put_err c.args.mm 0 _ (lit< tt) c.in_err-x.ensures (λ j h. absurd (omega arith)))

pub returns-in_err-y : goal.returns-in_err-y
returns-in_err-y c =
    let p = err_from_is_err_and c.from_residual-in_err-y.result c.from_residual-in_err-y.ensures.1 in
    rw (p.1, p.2) (put_err c.args.mm 1 _ (lit< tt) c.in_err-y.ensures (before_y c.args.mm c.in_ok-x.x c.in_ok-x.ensures))

pub returns-in_err-z : goal.returns-in_err-z
returns-in_err-z c =
    let p = err_from_is_err_and c.from_residual-in_err-z.result c.from_residual-in_err-z.ensures.1 in
    rw (p.1, p.2)
    (put_err c.args.mm 2 _ (lit< tt) c.in_err-z.ensures
    (before_z c.args.mm c.in_ok-x.x c.in_ok-y.y c.in_ok-x.ensures c.in_ok-y.ensures))

pub returns-in_err-new : goal.returns-in_err-new
returns-in_err-new c =
    let x = c.in_ok-x.x in
    let y = c.in_ok-y.y in
    let z = c.in_ok-z.z in
    let fx : SFits w32 x = search rules in
    let fy : SFits w32 y = search rules in
    let fz : SFits w32 z = search rules in
    absurd (no_fault x y z _ (units_few _ x c.in_ok-x.ensures) (units_few _ y c.in_ok-y.ensures) (units_few _ z c.in_ok-z.ensures)
    (simp to_z-of_z at c.in_err-new.ensures))

pub returns : goal.returns
returns c =
    let x = c.in_ok-x.x in
    let y = c.in_ok-y.y in
    let z = c.in_ok-z.z in
    let fx : SFits w32 x = search rules in
    let fy : SFits w32 y = search rules in
    let fz : SFits w32 z = search rules in
    put_ok c.args.mm x y z _ c.in_ok-x.ensures c.in_ok-y.ensures c.in_ok-z.ensures (simp to_z-of_z at c.in_ok-new.ensures.1)
