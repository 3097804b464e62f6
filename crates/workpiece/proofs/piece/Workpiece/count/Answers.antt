-- A count that is accepted.
use Rattle.std.proofs.Common.{length, Ok, sym, ap, ◌∙◌, arith}
use Rattle.std.proofs.lemmas.Bool.{le-leb, cond-true}
use Rattle.workpiece.specs.Carriers.{carried, carried_lawful}
use Rattle.workpiece.proofs.Keeping.{count_done}
use Rattle.workpiece.proofs.piece.Workpiece.count.Goals as goal

pub returns : goal.returns
returns g c =
    let m = carried g.S.Skin c.args.self.now.carrier in
    let room = c.in_ok-room.ensures in
    let fits = le-leb m.n (length c.args.table.now) (omega (arith, room)) in
    count_done g.S.Skin g.K.PointKind c.args.self.now c.args.table.now _ (carried_lawful g.S.Skin c.args.self.now.carrier) (ap Ok c.count.ensures.answer ∙ sym (cond-true _ _ _ fits))
