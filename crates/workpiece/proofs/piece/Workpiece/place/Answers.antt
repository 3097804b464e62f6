-- A place that is accepted.
use Rattle.std.proofs.Common.{map, length, ap, subst}
use Rattle.point.specs.Kinds.{place as placing}
use Rattle.workpiece.specs.Carriers.{carried, carried_lawful}
use Rattle.workpiece.specs.Outcomes.{Placed}
use Rattle.workpiece.proofs.Keeping.{place_yes, reached}
use Rattle.workpiece.proofs.piece.Workpiece.place.Goals as goal

pub returns : goal.returns
returns g c =
    let m = carried g.S.Skin c.args.self.now.carrier in
    place_yes g.S.Skin g.K.PointKind c.args.dart (g.K.PointKind.numbers c.args.point) c.args.self.now c.args.table.now c.ring_store.new.table _
    (carried_lawful g.S.Skin c.args.self.now.carrier) (reached _ _ m.n c.args.dart (length c.args.table.now) c.in_ok-reach.ensures).1 c.in_ok-reach.ensures
    (subst (λ p. Placed m c.args.dart p (map (placing g.K.PointKind) c.args.table.now) (map (placing g.K.PointKind) c.ring_store.new.table))
    (ap g.K.PointKind.numbers c.store-stored.ensures) (record { long = c.ring_store.ensures.long; here = c.ring_store.ensures.here }))
