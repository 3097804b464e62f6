-- Each turn fills four places, which no later turn reads.
use Rattle.std.proofs.Common.{◌≡◌, ◌+◌, ◌-◌, map, subst, arith}
use Rattle.workpiece.proofs.Fours.{Down, down_more}
use Rattle.workpiece.proofs.Lists.{place_point}
use Rattle.point.specs.Kinds.{place}
use Rattle.workpiece.proofs.rings.spread.Goals as goal

pub loop-h-preserved : goal.loop-h-preserved
loop-h-preserved g c =
    let e : c.loop-h.h ≡ c.loop-h.h - 1 + 1 = omega (arith, c.loop-h-test.true) in
    down_more (place g.K.PointKind) c.args.n (map (place g.K.PointKind) c.args.table.now) c.loop-h.table (c.loop-h.h - 1) c.index-table-h.result
    (omega (arith, c.loop-h-test.true, c.loop-h.auto.h)) (omega (arith, c.requires.fits, c.loop-h.auto.table)) c.index-table-h.is
    (place_point (place g.K.PointKind) c.loop-h.table (c.loop-h.h - 1) c.index-table-h.result
    (omega (arith, c.loop-h-test.true, c.loop-h.auto.h, c.requires.fits, c.loop-h.auto.table)) c.index-table-h.is)
    (subst (λ h. Down c.args.n (map (place g.K.PointKind) c.args.table.now) h (map (place g.K.PointKind) c.loop-h.table)) e c.loop-h.invariant)
