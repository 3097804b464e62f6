-- `carry_out` meets its contract: what was read is the dart's point, and a dart that was read can be placed.
use Rattle.std.proofs.Common.{◌≡◌, ℕ, ◌<◌, List, [], map, length, get_or, pos, Ok, Err, refl, ◌∙◌, subst, arith}
use Rattle.std.proofs.lemmas.List.{get_or-map}
use Rattle.std.proofs.lemmas.Result.{err_from_is_err_and}
use Rattle.point.specs.Kinds.{place}
use Rattle.point.specs.Solids.{numbers_of}
use Rattle.point.specs.declared.solid.SolidPoint.{SolidPoint}
use Rattle.point.specs.declared.solid.SolidRecord.{SolidRecord}
use Rattle.point.specs.contracts.solid.kind.SolidPointKind.TheImpl.{ghosts}
use Rattle.point.specs.SolidPoints.{solid_same}
use Rattle.order.specs.Rule.{TheOne}
use Rattle.order.specs.Orders.{Ordered}
use Rattle.workpiece.specs.Law.{work}
use Rattle.workpiece.proofs.Keeping.{reached, within_reach}
use Rattle.orders.specs.Orders.{point_of}
use Rattle.orders.proofs.carry_out.Goals as goal

-- the point that was read is that of the dart
read_point : (t : List SolidRecord) (dart : ℕ) (old : SolidPoint) → dart < length t → numbers_of old ≡ get_or (map (place ghosts) t) dart [] → old ≡ point_of t dart
read_point t dart old l h =
    let e : numbers_of old ≡ numbers_of (point_of t dart) = h ∙ get_or-map (place ghosts) t dart (record { x = pos 0; y = pos 0; z = pos 0 }) [] l in
    solid_same old (point_of t dart) (cc) (cc) (cc)

pub returns-in_err-point : goal.returns-in_err-point
returns-in_err-point g c =
    let p = err_from_is_err_and c.from_residual-in_err-point.result c.from_residual-in_err-point.ensures.1 in
    let t = c.args.table.now in
    let dart = c.args.dart in
    let old = c.in_ok-old.old in
    let n = (work g.S.Skin c.args.piece.now).carrier.n in
    let k = reached (get_or (map (place ghosts) t) dart []) (numbers_of old) n dart (length t) c.in_ok-old.ensures.answer in
    let same : old ≡ point_of t dart = read_point t dart old (omega (arith, within_reach n dart (length t) k.1)) k.0 in
    rw (p.1, p.2) (k.1, subst (λ (q : SolidPoint). TheOne (Ordered c.args.order q) (Err c.in_err-point.field-0.0)) same c.in_err-point.ensures, refl, refl)

pub returns : goal.returns
returns g c =
    let t = c.args.table.now in
    let dart = c.args.dart in
    let old = c.in_ok-old.old in
    let n = (work g.S.Skin c.args.piece.now).carrier.n in
    let k = reached (get_or (map (place ghosts) t) dart []) (numbers_of old) n dart (length t) c.in_ok-old.ensures.answer in
    let same : old ≡ point_of t dart = read_point t dart old (omega (arith, within_reach n dart (length t) k.1)) k.0 in (
      c.in_ok-point.point,
      subst (λ (q : SolidPoint). TheOne (Ordered c.args.order q) (Ok c.in_ok-point.point)) same c.in_ok-point.ensures,
      c.in_ok-place.ensures,
    )
