use Rattle.std.proofs.Common.{◌<◌, sym, vec_items, ◌∙◌, arith}
use Rattle.mesh.specs.Mesh.{turn}
use Rattle.mesh.specs.Count.{leads}
use Rattle.mesh.proofs.Leads.{count_none, count_le, count_yes, count_no}
use Rattle.skin.specs.Skins.{mesh}
use Rattle.writer.proofs.Numbering.{found_smaller, none_smaller, smaller_follows, number_lead, numbers_push, numbers_read}
use Rattle.writer.proofs.rings.vertex_numbers.Goals as goal
use Rattle.writer.proofs.rings.vertex_numbers.Goals.{in-Some, in-None}

pub loop-h-init : goal.loop-h-init
loop-h-init g c = (c.new-numbers.ensures.items, c.new-numbers.ensures.len, count_none (leads (turn (mesh g.S.Skin c.args.skin.now))))

pub overflow_add-found : goal.overflow_add-found
overflow_add-found g c = omega (arith, count_le (leads (turn (mesh g.S.Skin c.args.skin.now))) c.loop-h.h, c.loop-h.invariant.2)

pub index-requires : goal.index-requires
index-requires g c =
    let u = found_smaller (turn (mesh g.S.Skin c.args.skin.now)) c.loop-h.h c.in-Some.d (sym c.first_below.ensures ∙ c.in-Some.is) in
    omega (arith, u.under, c.loop-h.invariant.1)

pub loop-h-preserved : goal.loop-h-preserved
loop-h-preserved g c =
    let m = mesh g.S.Skin c.args.skin.now in
    let l = g.S.Skin.lawful c.args.skin.now in
    let b : c.loop-h.h < g.S.Skin.n c.args.skin.now = omega (arith, c.loop-h-test.true, c.n-h-end.ensures) in
    let s = l.vertices_short c.loop-h.h b in
    let i = c.loop-h.invariant in
    elim c.match-first_below.branch [
      | in-Some w ↦
          let u = found_smaller (turn m) c.loop-h.h w.in-Some.d (sym c.first_below.ensures ∙ w.in-Some.is) in (
            numbers_push m (vec_items c.loop-h.numbers) (vec_items c.push.new.self) c.loop-h.h _ i.0
                c.in_ok-push.ensures.items
                (w.number-is ∙ numbers_read m l (vec_items c.loop-h.numbers) c.loop-h.h w.in-Some.d _ b i.0 u w.index.ensures),
            c.in_ok-push.ensures.len ∙ omega (arith, i.1),
            w.found-is ∙ count_no (leads (turn m)) c.loop-h.h c.loop-h.found i.2 (smaller_follows (turn m) c.loop-h.h w.in-Some.d s u),
          )
      | in-None w ↦
          let q = none_smaller (turn m) c.loop-h.h s (sym c.first_below.ensures ∙ w.in-None.is) in (
            numbers_push m (vec_items c.loop-h.numbers) (vec_items c.push.new.self) c.loop-h.h _ i.0
                c.in_ok-push.ensures.items (w.number-is ∙ i.2 ∙ number_lead m l c.loop-h.h b q),
            c.in_ok-push.ensures.len ∙ omega (arith, i.1),
            w.found-is ∙ count_yes (leads (turn m)) c.loop-h.h c.loop-h.found i.2 q,
          )
    ]
