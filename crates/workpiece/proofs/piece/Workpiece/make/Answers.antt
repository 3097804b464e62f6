-- Each arm hands its call the front part of the table, which is what a step does.
use Rattle.std.proofs.Common.{refl, take}
use Rattle.workpiece.specs.declared.piece.Action.TheVariants as Ac
use Rattle.workpiece.proofs.Runs.{step_done}
use Rattle.workpiece.proofs.piece.Workpiece.make.Goals as goal

pub returns-in-Split : goal.returns-in-Split
returns-in-Split g c =
    step_done g.S.Skin g.K.PointKind c.args.step Ac.Split c.args.self.now c.split.new.self c.min-places.result c.args.table.now c.split.new.table _
    c.min-places.ensures c.in-Split.is (c.split.result, refl, c.split.ensures)

pub returns-in-Average : goal.returns-in-Average
returns-in-Average g c =
    step_done g.S.Skin g.K.PointKind c.args.step Ac.Average c.args.self.now c.average.new.self c.min-places.result c.args.table.now c.average.new.table _
    c.min-places.ensures c.in-Average.is (c.average.result, refl, c.average.ensures)

pub returns-in-Place : goal.returns-in-Place
returns-in-Place g c =
    step_done g.S.Skin g.K.PointKind c.args.step (Ac.Place c.in-Place.dart c.in-Place.point) c.args.self.now c.place.new.self c.min-places.result c.args.table.now c.place.new.table _
    c.min-places.ensures c.in-Place.is (c.place.result, refl, c.place.ensures)

pub returns-in-Read : goal.returns-in-Read
returns-in-Read g c =
    step_done g.S.Skin g.K.PointKind c.args.step (Ac.Read c.in-Read.dart) c.args.self.now c.args.self.now c.min-places.result c.args.table.now (take c.min-places.result c.args.table.now) _
    c.min-places.ensures c.in-Read.is (c.read.result, refl, c.read.ensures, refl, refl)

pub returns-in-Count : goal.returns-in-Count
returns-in-Count g c =
    step_done g.S.Skin g.K.PointKind c.args.step Ac.Count c.args.self.now c.args.self.now c.min-places.result c.args.table.now (take c.min-places.result c.args.table.now) _
    c.min-places.ensures c.in-Count.is (c.count.result, refl, c.count.ensures, refl, refl)
