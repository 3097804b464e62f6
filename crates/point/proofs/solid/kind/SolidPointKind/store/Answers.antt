-- The record of a point's coordinates means that point.
use Rattle.std.proofs.Common.{sym}
use Rattle.point.proofs.Casts.{back32}
use Rattle.point.specs.SolidPoints.{point_at_lem, three_same}
use Rattle.point.proofs.solid.kind.SolidPointKind.store.Goals as goal

pub returns : goal.returns
returns c =
    let p = c.args.point.now in
    sym (point_at_lem p (three_same (sym (back32 p.x p.ok.0)) (sym (back32 p.y p.ok.1)) (sym (back32 p.z p.ok.2))))
