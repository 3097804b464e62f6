-- A dart that leads its ring has the ring averaged, and any other changes nothing.
use Rattle.std.proofs.Common.{◌≡◌, ◌+◌, ◌<◌, List, map, sym, ◌∙◌, subst, arith}
use Rattle.mesh.specs.Count.{leads}
use Rattle.mesh.proofs.Leads.{count_none, count_yes, count_no}
use Rattle.skin.specs.Skins.{mesh}
use Rattle.point.specs.Kinds.{place, mean_point}
use Rattle.workpiece.proofs.Faces.{Part, part_none, part_more, part_skip, part_all}
use Rattle.workpiece.proofs.rings.average_faces.Goals as goal
use Rattle.workpiece.proofs.rings.average_faces.Goals.{in-Some, in_default}

pub loop-h-init : goal.loop-h-init
loop-h-init g c = (omega arith, count_none (leads (g.S.Skin.next c.args.skin.now)), part_none (g.S.Skin.lawful c.args.skin.now))

pub loop-h-preserved : goal.loop-h-preserved
loop-h-preserved g c =
    let law = g.S.Skin.lawful c.args.skin.now in
    let m = mesh g.S.Skin c.args.skin.now in
    let inv = c.loop-h.invariant in
    let P : List g.row.K-Record.Denot → Type 0 = λ t. Part g.K.PointKind.width (mean_point g.K.PointKind) m (map (place g.K.PointKind) c.args.table.now) (c.loop-h.h + 1) (map (place g.K.PointKind) t) in
    let low : c.loop-h.h < m.n = omega (arith, c.loop-h-test.true, c.n-h-end.ensures) in
    elim c.match-lead_sum.branch [
      | in-Some w ↦
          (let first = w.in-Some.ensures.0 in (
            omega (arith, w.rings-is, inv.0),
            w.rings-is ∙ count_yes (leads m.next) c.loop-h.h c.loop-h.rings inv.1 first,
            subst P (sym w.table-is) (part_more law c.loop-h.h low first inv.2 w.store_mean.ensures),
          ))
      | in_default w ↦
          (let first = w.in_default.ensures in (
            omega (arith, w.rings-is, inv.0),
            w.rings-is ∙ count_no (leads m.next) c.loop-h.h c.loop-h.rings inv.1 first,
            subst P (sym w.table-is) (part_skip law c.loop-h.h low first inv.2),
          ))
    ]

pub returns-clause-places : goal.returns-clause-places
returns-clause-places g c =
    let law = g.S.Skin.lawful c.args.skin.now in
    let m = mesh g.S.Skin c.args.skin.now in
    let all : c.loop-h.h ≡ m.n = omega (arith, c.loop-h-test.false, c.n-h-end.ensures, c.loop-h.auto.h-end) in
    part_all law (subst (λ a. Part g.K.PointKind.width (mean_point g.K.PointKind) m (map (place g.K.PointKind) c.args.table.now) a (map (place g.K.PointKind) c.loop-h.table)) all c.loop-h.invariant.2)
