-- Each turn of the loop writes one dart more, until it is all round.
use Rattle.std.proofs.Common.{ℕ, ◌<◌, cond, [], map, length, get_or, sym, ap, ◌∙◌, arith, rules}
use Rattle.std.proofs.lemmas.List.{length-map, length_push}
use Rattle.mesh.specs.Mesh.{among}
use Rattle.mesh.proofs.Rings.{orbit, ring_orbit}
use Rattle.skin.specs.Skins.{mesh}
use Rattle.skin.specs.Counts.{along}
use Rattle.skin.proofs.Alongs.{along_rounds}
use Rattle.point.specs.Kinds.{place}
use Rattle.workpiece.proofs.Orbits.{dart_turn, dart_end}
use Rattle.workpiece.proofs.Stores.{set_point, written_more}
use Rattle.workpiece.proofs.rings.ring_store.Goals as goal

pub bounds-table-d : goal.bounds-table-d
bounds-table-d g c =
    let m = mesh g.S.Skin c.args.skin.now in
    let f : ℕ → ℕ = along c.args.ring m in
    let r = along_rounds c.args.ring m (g.S.Skin.lawful c.args.skin.now) in
    let q = dart_turn g.S.Skin r c.requires.within c.into_iter-d-iterator.ensures.into_iter_gives c.orbit-d-items.ensures c.loop-d.yielded c.loop-d.d-iterator c.next.new.self c.loop-d.yielded_by c.next.ensures.steps c.in-Some.is in
    omega (arith, q.2, c.requires.covers, c.loop-d.auto.table)

pub offset_bounds-table-d : goal.offset_bounds-table-d
offset_bounds-table-d g c =
    let m = mesh g.S.Skin c.args.skin.now in
    let f : ℕ → ℕ = along c.args.ring m in
    let r = along_rounds c.args.ring m (g.S.Skin.lawful c.args.skin.now) in
    let q = dart_turn g.S.Skin r c.requires.within c.into_iter-d-iterator.ensures.into_iter_gives c.orbit-d-items.ensures c.loop-d.yielded c.loop-d.d-iterator c.next.new.self c.loop-d.yielded_by c.next.ensures.steps c.in-Some.is in
    let inside : c.in-Some.d < length c.loop-d.table = omega (arith, q.2, c.requires.covers, c.loop-d.auto.table) in
    search rules

pub loop-d-preserved : goal.loop-d-preserved
loop-d-preserved g c =
    let m = mesh g.S.Skin c.args.skin.now in
    let f : ℕ → ℕ = along c.args.ring m in
    let r = along_rounds c.args.ring m (g.S.Skin.lawful c.args.skin.now) in
    let q = dart_turn g.S.Skin r c.requires.within c.into_iter-d-iterator.ensures.into_iter_gives c.orbit-d-items.ensures c.loop-d.yielded c.loop-d.d-iterator c.next.new.self c.loop-d.yielded_by c.next.ensures.steps c.in-Some.is in
    let k : ℕ = length c.loop-d.yielded in
    let inside : c.in-Some.d < length c.loop-d.table = omega (arith, q.2, c.requires.covers, c.loop-d.auto.table) in (
      tt,
      tt,
      λ x. written_more x c.in-Some.d k f c.args.h (place g.K.PointKind c.args.p) _ _ _ q.1 (c.loop-d.invariant.2 x) (set_point (place g.K.PointKind) c.loop-d.table c.in-Some.d x c.args.p inside)
          ∙ ap (λ j. cond (among x (orbit j f c.args.h)) (place g.K.PointKind c.args.p) (get_or (map (place g.K.PointKind) c.args.table.now) x [])) (sym (length_push c.loop-d.yielded c.in-Some.d)),
    )

pub returns : goal.returns
returns g c =
    let m = mesh g.S.Skin c.args.skin.now in
    let f : ℕ → ℕ = along c.args.ring m in
    let r = along_rounds c.args.ring m (g.S.Skin.lawful c.args.skin.now) in
    let e = dart_end g.S.Skin r c.requires.within c.into_iter-d-iterator.ensures.into_iter_gives c.orbit-d-items.ensures c.loop-d.yielded c.loop-d.d-iterator c.next.new.self c.loop-d.yielded_by c.next.ensures.steps c.in-None.is in
    record {
      long = length-map c.loop-d.table (place g.K.PointKind) ∙ c.loop-d.auto.table ∙ sym (length-map c.args.table.now (place g.K.PointKind));
      here = λ x.
          c.loop-d.invariant.2 x
          ∙ ap (λ k. cond (among x (orbit k f c.args.h)) (place g.K.PointKind c.args.p) (get_or (map (place g.K.PointKind) c.args.table.now) x [])) e
          ∙ ap (λ ds. cond (among x ds) (place g.K.PointKind c.args.p) (get_or (map (place g.K.PointKind) c.args.table.now) x [])) (sym (ring_orbit f c.args.h));
    }
