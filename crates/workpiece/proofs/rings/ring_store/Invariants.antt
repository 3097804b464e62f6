-- What the loop over the ring keeps: its darts so far have the record, and no other place has changed.
use Rattle.std.proofs.Common.{◌≡◌, ℕ, cond, [], map, length, get_or}
use Rattle.mesh.specs.Mesh.{among}
use Rattle.mesh.proofs.Rings.{orbit}
use Rattle.skin.specs.Skins.{mesh}
use Rattle.skin.specs.Counts.{along}
use Rattle.point.specs.Kinds.{place}
use Rattle.workpiece.proofs.rings.ring_store.Given as goal

abbrev pub invariant-loop-d : goal.invariant-loop-d
invariant-loop-d g l =
    let walked = orbit (length l.yielded) (along l.fn.ring (mesh g.S.Skin l.skin)) l.h in
    (goal.iterator-loop-d g).can_next l.d-iterator
    × (goal.iterator-loop-d g).is_finite l.d-iterator
    × ((x : ℕ) → get_or (map (place g.K.PointKind) l.table) x [] ≡ cond (among x walked) (place g.K.PointKind l.p) (get_or (map (place g.K.PointKind) l.initial.table) x []))
