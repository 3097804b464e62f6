-- An average that is accepted.
use Rattle.std.proofs.Common.{length, Ok, sym, refl, ap, ◌∙◌, arith}
use Rattle.std.proofs.lemmas.Bool.{and_from, le-leb, lt-ltb, cond-true}
use Rattle.workpiece.specs.Carriers.{carried, carried_lawful}
use Rattle.workpiece.proofs.Lists.{place_laws}
use Rattle.workpiece.proofs.Keeping.{average_yes}
use Rattle.workpiece.proofs.piece.Workpiece.average.Goals as goal

pub returns : goal.returns
returns g c =
    let m = carried g.S.Skin c.args.self.now.carrier in
    let room = c.in_ok-room.ensures in
    let fits = le-leb m.n (length c.args.table.now) (omega (arith, room)) in
    let few = lt-ltb c.args.self.now.averages 255 (omega arith) in
    average_yes g.S.Skin g.K.PointKind
    (place_laws g.K.PointKind.numbers g.K.PointKind.meant g.met.K.PointKind.lawful) c.args.self.now _ c.args.table.now c.average_faces-rings.new.table _
    (carried_lawful g.S.Skin c.args.self.now.carrier) (and_from _ _ fits few)
    (ap Ok c.average_faces-rings.ensures.count ∙ sym (cond-true _ _ _ fits ∙ cond-true _ _ _ few))
    c.to_dual.ensures.base (record { carried = c.to_dual.ensures.mesh; split_so = omega (arith, c.to_dual.ensures.splits); averaged_so = refl })
    c.average_faces-rings.ensures.places
