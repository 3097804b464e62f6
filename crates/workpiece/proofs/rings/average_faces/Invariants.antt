-- What the loop over the darts keeps: the rings with a dart below h are counted and averaged.
use Rattle.std.proofs.Common.{◌≡◌, ◌≤◌, map}
use Rattle.mesh.specs.Count.{rings}
use Rattle.skin.specs.Skins.{mesh}
use Rattle.point.specs.Kinds.{place, mean_point}
use Rattle.workpiece.proofs.Faces.{Part}
use Rattle.workpiece.proofs.rings.average_faces.Given as goal

abbrev pub invariant-loop-h : goal.invariant-loop-h
invariant-loop-h g l =
    let m = mesh g.S.Skin l.skin in
    (l.rings ≤ l.h) × (l.rings ≡ rings m.next l.h)
    × Part g.K.PointKind.width (mean_point g.K.PointKind) m (map (place g.K.PointKind) l.initial.table) l.h (map (place g.K.PointKind) l.table)
