-- A read that is accepted.
use Rattle.std.proofs.Common.{[], map, length, get_or, Ok, ap, ◌∙◌, arith}
use Rattle.point.specs.Kinds.{place as placing}
use Rattle.workpiece.specs.Carriers.{carried}
use Rattle.workpiece.specs.Answers.{ok_mapped}
use Rattle.workpiece.proofs.Lists.{place_point}
use Rattle.workpiece.proofs.Keeping.{read_done, reached, reach_with, within_reach}
use Rattle.workpiece.proofs.piece.Workpiece.read.Goals as goal

pub returns : goal.returns
returns g c =
    let m = carried g.S.Skin c.args.self.now.carrier in
    let r = reached _ _ m.n c.args.dart (length c.args.table.now) c.in_ok-reach.ensures in
    read_done g.S.Skin g.K.PointKind c.args.dart c.args.self.now c.args.table.now _
    (ap Ok (ap g.K.PointKind.numbers c.load.ensures
    ∙ place_point (placing g.K.PointKind) c.args.table.now c.args.dart _ (omega (arith, within_reach m.n c.args.dart (length c.args.table.now) r.1)) c.index-table-dart.is)
    ∙ ap (ok_mapped (λ _. get_or (map (placing g.K.PointKind) c.args.table.now) c.args.dart [])) c.in_ok-reach.ensures
    ∙ reach_with (get_or (map (placing g.K.PointKind) c.args.table.now) c.args.dart []) m.n c.args.dart (length c.args.table.now))
