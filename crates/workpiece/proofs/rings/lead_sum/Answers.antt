-- Each turn of the loop adds one dart more, until it is all round or meets a smaller dart.
use Rattle.std.proofs.Common.{◌≡◌, ℕ, ◌+◌, ◌<◌, true, false, ◌&&◌, leb, [], ◌∷◌, ◌++◌, map, length, get_or, sym, ap, ◌∙◌, subst, ⊎_elim, add-one, arith, rules}
use Rattle.std.specs.Prelude.{is_ok}
use Rattle.std.proofs.lemmas.Bool.{cases_Bool, and_from, le-leb}
use Rattle.std.proofs.lemmas.List.{length_push}
use Rattle.mesh.specs.Mesh.{times, floor}
use Rattle.mesh.specs.Count.{leads}
use Rattle.mesh.proofs.Rings.{orbit, ring_orbit, times_zero, times_suc, On, on_steps, on_sym}
use Rattle.mesh.proofs.Rounds.{face_rounds, floor_snoc}
use Rattle.mesh.proofs.Leads.{decides_leads}
use Rattle.skin.specs.Skins.{mesh}
use Rattle.skin.proofs.Calls.{unwrapped}
use Rattle.point.specs.Points.{Point, totals}
use Rattle.point.specs.Kinds.{place}
use Rattle.workpiece.proofs.Lists.{place_point, add_more}
use Rattle.workpiece.proofs.Orbits.{dart_turn, dart_end}
use Rattle.workpiece.proofs.rings.lead_sum.Goals as goal

-- the dart before is smaller
pub returns-then-unwrap-h : goal.returns-then-unwrap-h
returns-then-unwrap-h g c =
    let m = mesh g.S.Skin c.args.skin.now in
    let law = g.S.Skin.lawful c.args.skin.now in
    let f : ℕ → ℕ = m.next in
    let h : ℕ = c.args.h in
    let before : ℕ = m.prev h in
    let short = law.faces_short before (law.prev_below h c.requires.within) in
    let one : times 1 f before ≡ h = times_suc 0 f before ∙ ap f (times_zero f before) ∙ law.next_prev h c.requires.within in
    let o = on_sym f before h short (subst (On f before) one (on_steps f before short 1)) in
    let decides = decides_leads f h (law.faces_short h c.requires.within) in
    let is : c.unwrap.result ≡ before = (unwrapped m.n h before c.unwrap.result c.prev.ensures c.unwrap.ensures).1 in
    ⊎_elim (λ (yes' : leads f h ≡ true). absurd (omega (arith, decides.0 yes' o.0, o.2, is, c.if-unwrap-h.true)))
    (λ (no' : leads f h ≡ false). no') (cases_Bool (leads f h))

-- a smaller dart is met
pub returns-then-d-h : goal.returns-then-d-h
returns-then-d-h g c =
    let m = mesh g.S.Skin c.args.skin.now in
    let f : ℕ → ℕ = m.next in
    let r = face_rounds {m = m} (g.S.Skin.lawful c.args.skin.now) in
    let q = dart_turn g.S.Skin r c.requires.within c.into_iter-d-iterator.ensures.into_iter_gives c.orbit-d-items.ensures c.loop-d.yielded c.loop-d.d-iterator c.next.new.self c.loop-d.yielded_by c.next.ensures.steps c.in-Some.is in
    let decides = decides_leads f c.args.h (r.short c.args.h c.requires.within) in
    ⊎_elim (λ (yes' : leads f c.args.h ≡ true). absurd (omega (arith, decides.0 yes' (length c.loop-d.yielded), q.1, c.if-d-h.true)))
    (λ (no' : leads f c.args.h ≡ false). no') (cases_Bool (leads f c.args.h))

pub bounds-table-d : goal.bounds-table-d
bounds-table-d g c =
    let m = mesh g.S.Skin c.args.skin.now in
    let f : ℕ → ℕ = m.next in
    let r = face_rounds {m = m} (g.S.Skin.lawful c.args.skin.now) in
    let q = dart_turn g.S.Skin r c.requires.within c.into_iter-d-iterator.ensures.into_iter_gives c.orbit-d-items.ensures c.loop-d.yielded c.loop-d.d-iterator c.next.new.self c.loop-d.yielded_by c.next.ensures.steps c.in-Some.is in
    omega (arith, q.2, c.requires.covers)

pub offset_bounds-table-d : goal.offset_bounds-table-d
offset_bounds-table-d g c =
    let m = mesh g.S.Skin c.args.skin.now in
    let f : ℕ → ℕ = m.next in
    let r = face_rounds {m = m} (g.S.Skin.lawful c.args.skin.now) in
    let q = dart_turn g.S.Skin r c.requires.within c.into_iter-d-iterator.ensures.into_iter_gives c.orbit-d-items.ensures c.loop-d.yielded c.loop-d.d-iterator c.next.new.self c.loop-d.yielded_by c.next.ensures.steps c.in-Some.is in
    let inside : c.in-Some.d < length c.args.table.now = omega (arith, q.2, c.requires.covers) in
    search rules

pub loop-d-preserved : goal.loop-d-preserved
loop-d-preserved g c =
    let m = mesh g.S.Skin c.args.skin.now in
    let f : ℕ → ℕ = m.next in
    let r = face_rounds {m = m} (g.S.Skin.lawful c.args.skin.now) in
    let q = dart_turn g.S.Skin r c.requires.within c.into_iter-d-iterator.ensures.into_iter_gives c.orbit-d-items.ensures c.loop-d.yielded c.loop-d.d-iterator c.next.new.self c.loop-d.yielded_by c.next.ensures.steps c.in-Some.is in
    let at : ℕ → Point = λ x. get_or (map (place g.K.PointKind) c.args.table.now) x [] in
    let h : ℕ = c.args.h in
    let k : ℕ = length c.loop-d.yielded in
    let inv = c.loop-d.invariant in
    let more : length (c.loop-d.yielded ++ c.in-Some.d ∷ []) ≡ k + 1 = length_push c.loop-d.yielded c.in-Some.d in
    let all = add_more g.K.PointKind.width at f h k (g.K.PointKind.numbers c.load.result) _ _ _ _ (is_ok c.add.result)
    c.add.ensures.answer c.add.ensures.count c.add.ensures.sums inv.3 (omega (arith, r.short h c.requires.within, q.0)) inv.4
    (ap g.K.PointKind.numbers c.load.ensures ∙ place_point (place g.K.PointKind) c.args.table.now c.in-Some.d _ (omega (arith, q.2, c.requires.covers)) c.index-table-d.is ∙ ap at q.1) in (
      tt,
      tt,
      ap (λ j. floor h (orbit j f h)) (more ∙ add-one k) ∙ floor_snoc h k f h
          ∙ ap (λ y. floor h (orbit k f h) && leb h y) (sym q.1) ∙ and_from _ _ inv.2 (le-leb h c.in-Some.d c.if-d-h.false),
      all.0 ∙ sym more,
      all.1 ∙ ap (λ j. totals g.K.PointKind.width (map at (orbit j f h))) (sym more),
    )

pub returns : goal.returns
returns g c =
    let m = mesh g.S.Skin c.args.skin.now in
    let f : ℕ → ℕ = m.next in
    let r = face_rounds {m = m} (g.S.Skin.lawful c.args.skin.now) in
    let e = dart_end g.S.Skin r c.requires.within c.into_iter-d-iterator.ensures.into_iter_gives c.orbit-d-items.ensures c.loop-d.yielded c.loop-d.d-iterator c.next.new.self c.loop-d.yielded_by c.next.ensures.steps c.in-None.is in
    let at : ℕ → Point = λ x. get_or (map (place g.K.PointKind) c.args.table.now) x [] in
    let h : ℕ = c.args.h in
    let inv = c.loop-d.invariant in (
      ap (floor h) (ring_orbit f h) ∙ ap (λ k. floor h (orbit k f h)) (sym e) ∙ inv.2,
      inv.3 ∙ e,
      inv.4 ∙ ap (λ k. totals g.K.PointKind.width (map at (orbit k f h))) e ∙ ap (λ ds. totals g.K.PointKind.width (map at ds)) (sym (ring_orbit f h)),
    )
