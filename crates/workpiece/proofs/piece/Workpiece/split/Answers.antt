-- A split that is accepted.
use Rattle.std.proofs.Common.{◌*◌, map, length, sym, ◌∙◌, subst, arith}
use Rattle.std.proofs.lemmas.Bool.{and_from, le-leb, lt-ltb, cond-true}
use Rattle.point.specs.Kinds.{place as placing}
use Rattle.workpiece.specs.Carriers.{carried, carried_lawful}
use Rattle.workpiece.specs.Outcomes.{Split}
use Rattle.workpiece.proofs.Keeping.{split_yes}
use Rattle.workpiece.proofs.piece.Workpiece.split.Goals as goal

pub returns : goal.returns
returns g c =
    let m = carried g.S.Skin c.args.self.now.carrier in
    let room = c.in_ok-room.ensures in
    let left = lt-ltb c.args.self.now.carrier.ladder.count 8 (omega arith) in
    let few = le-leb (4 * m.n) 1048576 (omega (arith, c.if-more.false, c.n-n.ensures)) in
    let fits = le-leb (4 * m.n) (length c.args.table.now) (omega (arith, room, c.n-n.ensures)) in
    split_yes g.S.Skin g.K.PointKind c.args.self.now _ c.args.table.now c.spread.new.table _
    (carried_lawful g.S.Skin c.args.self.now.carrier) (carried_lawful g.S.Skin c.to_split.new.self) (and_from _ _ left (and_from _ _ few fits))
    (sym (cond-true _ _ _ left ∙ cond-true _ _ _ few ∙ cond-true _ _ _ fits))
    c.to_split.ensures.base (record { carried = c.to_split.ensures.mesh; split_so = c.to_split.ensures.splits; averaged_so = omega arith })
    (subst (λ n. Split n (map (placing g.K.PointKind) c.args.table.now) (map (placing g.K.PointKind) c.spread.new.table)) c.n-n.ensures c.spread.ensures)
