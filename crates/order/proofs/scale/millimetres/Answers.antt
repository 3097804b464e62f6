-- `millimetres` meets its contract: the quotient is exact, and its units are those it came from.
use Rattle.std.proofs.Common.{◌≡◌, ℤ, sym, subst, w32, to_z, of_z}
use lib.Signed.{nat_abs-le}
use mir.ValLaws.{to_z-of_z}
use Rattle.order.specs.Scale.{Exactly, Plain}
use Rattle.order.proofs.Back.{shared, exactly, plain, exactly_ok, computed}
use Rattle.order.proofs.scale.millimetres.Goals as goal

pub returns : goal.returns
returns c =
    let u = c.args.u in
    let v = to_z w32 (of_z w32 u) in
    let same : v ≡ u = to_z-of_z w32 u c.ranges.u in
    let e : Exactly (shared v) u = subst (λ (z : ℤ). Exactly (shared z) u) (sym same) (exactly u (nat_abs-le u c.ranges.u.sfits)) in
    let p : Plain (shared v) = subst (λ (z : ℤ). Plain (shared z)) (sym same) (plain u (nat_abs-le u c.ranges.u.sfits)) in
    record { exact = e; plain = p; back = λ l. computed (shared v) _ (exactly_ok (shared v) u e l) }
