use Rattle.std.proofs.Common.{◌≡◌, ℕ, ◌<◌, ◌≤◌, true, false, ◌&&◌, ltb, leb, sym, refl, ap, ◌∙◌, ⊎_elim, add-one, arith, rules}
use Rattle.std.proofs.lemmas.Bool.{le-leb, lt-ltb, eq-eqb, ne_eqb, cases_eq, cases_Bool}
use Rattle.mesh.specs.Mesh.{times, floor}
use Rattle.mesh.specs.Count.{leads}
use Rattle.mesh.proofs.Rings.{orbit, ring_orbit, ring_pos}
use Rattle.mesh.proofs.Rounds.{period, floor_snoc, not_round, all_round, walked, walked_one}
use Rattle.mesh.proofs.Leads.{decides_leads}
use Rattle.skin.specs.Skins.{mesh}
use Rattle.skin.specs.Counts.{along}
use Rattle.skin.proofs.Alongs.{along_rounds}
use Rattle.skin.proofs.Calls.{answered, unwrapped}
use Rattle.skin.proofs.count.leads_ring.Given as given
use Rattle.skin.proofs.count.leads_ring.Goals as goal

pub loop-c-init : goal.loop-c-init
loop-c-init g c =
    let m = mesh g.S.Skin c.args.skin.now in
    let r = along_rounds c.args.ring m (g.S.Skin.lawful c.args.skin.now) in
    let a = answered _ _ _ _ c.in-Some.ensures in (
      a.0,
      rw a.1 (r.below c.args.h a.0),
      omega arith,
      ring_pos (along c.args.ring m) c.args.h,
      walked_one r c.args.h _ a.1,
      ap (λ b. b && true) (le-leb c.args.h c.args.h (omega arith)),
    )

-- the loop has not been all round
more : (g : given.Over) (c : goal.After-unwrap-c g) → c.loop-c.k < period (along c.args.ring (mesh g.S.Skin c.args.skin.now)) c.args.h
more g c =
    let m = mesh g.S.Skin c.args.skin.now in
    let r = along_rounds c.args.ring m (g.S.Skin.lawful c.args.skin.now) in
    let inv = c.loop-c.invariant in
    not_round r c.args.h c.loop-c.k c.loop-c.c inv.0 inv.3 inv.4 (λ e. omega (arith, c.loop-c-test.true))

pub loop-c-smaller : goal.loop-c-smaller
loop-c-smaller g c =
    let m = mesh g.S.Skin c.args.skin.now in
    let r = along_rounds c.args.ring m (g.S.Skin.lawful c.args.skin.now) in
    omega (arith, r.short c.args.h c.loop-c.invariant.0, more g c)

pub overflow_add-k : goal.overflow_add-k
overflow_add-k g c =
    let m = mesh g.S.Skin c.args.skin.now in
    let r = along_rounds c.args.ring m (g.S.Skin.lawful c.args.skin.now) in
    let k : c.loop-c.k ≤ 64 = omega (arith, r.short c.args.h c.loop-c.invariant.0, c.loop-c.invariant.3) in
    search rules

pub loop-c-preserved : goal.loop-c-preserved
loop-c-preserved g c =
    let m = mesh g.S.Skin c.args.skin.now in
    let r = along_rounds c.args.ring m (g.S.Skin.lawful c.args.skin.now) in
    let inv = c.loop-c.invariant in
    let f : ℕ → ℕ = along c.args.ring m in
    let h = c.args.h in
    let k = c.loop-c.k in
    let a = unwrapped _ _ _ _ c.follow-in-loop-c.ensures c.unwrap-c.ensures in
    let low : leb h (times k f h) ≡ true = le-leb h (times k f h) (omega (arith, c.loop-c-test.true, inv.4)) in (
      inv.0,
      rw a.1 (r.below c.loop-c.c inv.1),
      omega arith,
      omega (arith, more g c),
      walked r h k c.loop-c.c _ inv.4 a.1,
      ap (λ j. floor h (orbit j f h)) (add-one k) ∙ floor_snoc h k f h ∙ ap (λ b. b && leb h (times k f h)) inv.5 ∙ ap (λ b. true && b) low,
    )

pub returns : goal.returns
returns g c =
    let m = mesh g.S.Skin c.args.skin.now in
    let r = along_rounds c.args.ring m (g.S.Skin.lawful c.args.skin.now) in
    let inv = c.loop-c.invariant in
    let f : ℕ → ℕ = along c.args.ring m in
    let h = c.args.h in
    let inside : ltb h m.n ≡ true = lt-ltb h m.n inv.0 in
    ⊎_elim
    (λ (e : c.loop-c.c ≡ h).
    let round = all_round r h c.loop-c.k c.loop-c.c inv.2 inv.3 inv.4 e in
    let lead : leads f h ≡ true = ap (floor h) (ring_orbit f h ∙ ap (λ j. orbit j f h) (sym round)) ∙ inv.5 in
    rw (eq-eqb c.loop-c.c h e, inside, lead) refl)
    (λ (e : c.loop-c.c ≡ h → ⊥).
    let low : c.loop-c.c < h = omega (arith, c.loop-c-test.false) in
    let lead : leads f h ≡ false =
    ⊎_elim
    (λ t. absurd (omega (arith, (decides_leads f h (r.short h inv.0)).0 t c.loop-c.k, inv.4)))
    (λ t. t)
    (cases_Bool (leads f h)) in
    rw (ne_eqb c.loop-c.c h e, inside, lead) refl)
    (cases_eq c.loop-c.c h)
