-- What the loop over the ring keeps: its darts so far are h or more, and the sum is over them.
use Rattle.std.proofs.Common.{◌≡◌, true, [], map, length, get_or}
use Rattle.mesh.specs.Mesh.{floor}
use Rattle.mesh.proofs.Rings.{orbit}
use Rattle.point.specs.Points.{totals}
use Rattle.point.specs.Kinds.{place}
use Rattle.workpiece.proofs.rings.lead_sum.Given as goal

abbrev pub invariant-loop-d : goal.invariant-loop-d
invariant-loop-d g l =
    let walked = orbit (length l.yielded) (g.S.Skin.next l.skin) l.h in
    (goal.iterator-loop-d g).can_next l.d-iterator
    × (goal.iterator-loop-d g).is_finite l.d-iterator
    × (floor l.h walked ≡ true)
    × (g.K.PointKind.count l.sum ≡ length l.yielded)
    × (g.K.PointKind.sums l.sum ≡ totals g.K.PointKind.width (map (λ x. get_or (map (place g.K.PointKind) l.table) x []) walked))
