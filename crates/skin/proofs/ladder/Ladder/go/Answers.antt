use Rattle.std.proofs.Common.{◌≡◌, suc, ◌-◌, ◌/◌, ◌%◌, ◌<◌, set, sym, refl, ap, ◌∙◌, arith, length-set}
use Rattle.mesh.specs.Rungs.{level}
use Rattle.skin.specs.Skins.{mesh}
use Rattle.skin.specs.Ways.{act, way_digit}
use Rattle.skin.proofs.Calls.{answered, answers, never_none}
use Rattle.mesh.proofs.RungLaws.{level_lawful, level_zero_n, level_less}
use Rattle.skin.proofs.WayLaws.{act_below, climb, at_foot, at_rest, up_step, up_bound, top, down_turn}
use Rattle.skin.proofs.ladder.Ladder.go.Given as given
use Rattle.skin.proofs.ladder.Ladder.go.Goals as goal
use Rattle.skin.proofs.ladder.Ladder.go.Goals.{Joined-i-eq0, then-i-eq0+in_ok-x, else-i-eq0, then-down-test+else-not-stays, else-down-test}

pub down-init : goal.down-init
down-init g c = (omega arith, refl, omega (arith, c.size.ensures), top _ _ _ _ (omega arith))

pub offset_bounds-digits-i : goal.offset_bounds-digits-i
offset_bounds-digits-i g c = omega (arith, c.args.self.now.few, c.down.invariant.0)

pub bounds-digits-i : goal.bounds-digits-i
bounds-digits-i g c = omega (arith, c.args.self.now.few, c.down.invariant.0)

pub bounds-self-i : goal.bounds-self-i
bounds-self-i g c = omega (arith, c.args.self.now.few, c.down.invariant.0)

pub down-preserved : goal.down-preserved
down-preserved g c =
    let s = c.args.self.now in
    let I = c.down.i in
    let t : 0 < I = c.down-test.true in
    let e : suc (I - 1) ≡ I = omega arith in
    let m = mesh g.S.Skin s.base in
    let ds = c.down.digits in
    let w = c.down.w in
    let d = c.down.d in (
      omega (arith, c.down.invariant.0),
      length-set ds _ _ ∙ c.down.invariant.1,
      level_less _ m _ I d e c.down.invariant.2,
      ap (λ v. climb (set ds (I - 1) v) (I - 1) (s.count - (I - 1)) (act (level (I - 1) s.bits m) c.under-w.result (d / 4))) c.digit.ensures
          ∙ ap (λ v. climb (set ds (I - 1) (way_digit w (d % 4))) (I - 1) (s.count - (I - 1)) (act (level (I - 1) s.bits m) v (d / 4))) c.under-w.ensures
          ∙ down_turn m (g.S.Skin.lawful s.base) s.bits ds (I - 1) I s.count w d _ e (omega (arith, c.down.invariant.0))
          (omega (arith, c.down.invariant.0, c.down.invariant.1, s.few)) c.down.invariant.2 c.down.invariant.3,
    )

pub returns-in_err-x : goal.returns-in_err-x
returns-in_err-x g c =
    absurd (never_none _ _ _ (level_zero_n _ (mesh g.S.Skin c.args.self.now.base) _ _ (omega (arith, c.if-i-eq0.true)) c.down.invariant.2) c.in_err-x.ensures)

-- the way up starts where the way down led to
landed : (g : given.Over) (c : Joined-i-eq0 g) →
    c.if-i-eq0.x ≡ act (level c.down.i c.args.self.now.bits (mesh g.S.Skin c.args.self.now.base)) c.down.w c.down.d
landed g c =
    let s = c.args.self.now in
    let m = mesh g.S.Skin s.base in
    elim c.if-i-eq0.branch [
      | then-i-eq0+in_ok-x w ↦ w.x-is ∙ at_foot m s.bits c.down.i c.down.w c.down.d _ w.if-i-eq0.true (answered _ _ _ _ w.in_ok-x.ensures).1
      | else-i-eq0 w ↦ w.x-is ∙ at_rest (level c.down.i s.bits m) c.down.w c.down.d
          (elim c.down-test.branch [
            | then-down-test+else-not-stays v ↦ sym v.stays.ensures ∙ v.if-not-stays.false
            | else-down-test v ↦ absurd (omega (arith, v.down-test.false, w.if-i-eq0.false))
          ])
    ]

led : (g : given.Over) (c : Joined-i-eq0 g) →
    climb c.down.digits c.down.i (c.args.self.now.count - c.down.i) c.if-i-eq0.x
    ≡ act (level c.args.self.now.count c.args.self.now.bits (mesh g.S.Skin c.args.self.now.base)) c.args.way c.args.h
led g c = ap (climb c.down.digits c.down.i (c.args.self.now.count - c.down.i)) (landed g c) ∙ c.down.invariant.3

-- the answer is a dart, so it fits
fits : (g : given.Over) (c : Joined-i-eq0 g) →
    act (level c.args.self.now.count c.args.self.now.bits (mesh g.S.Skin c.args.self.now.base)) c.args.way c.args.h < 1048576
fits g c =
    let s = c.args.self.now in
    let m = mesh g.S.Skin s.base in
    let L = level_lawful s.count s.bits m (g.S.Skin.lawful s.base) in
    let h : c.args.h < (level s.count s.bits m).n = omega (arith, c.size.ensures, c.if-h-size.false) in
    omega (arith, act_below (level s.count s.bits m) L c.args.way c.args.h h, L.few)

pub loop-k-init : goal.loop-k-init
loop-k-init g c = (omega arith, c.down.invariant.0, refl)

pub overflow_mul-x : goal.overflow_mul-x
overflow_mul-x g c =
    let j = (goal.at.overflow_mul-x g c).Joined-i-eq0 in
    omega (arith, up_bound _ _ _ _ _ c.loop-k-test.true (c.loop-k.invariant.2 ∙ led g j), fits g j)

pub overflow_add-x : goal.overflow_add-x
overflow_add-x g c =
    let j = (goal.at.overflow_add-x g c).Joined-i-eq0 in
    omega (arith, up_bound _ _ _ _ _ c.loop-k-test.true (c.loop-k.invariant.2 ∙ led g j), fits g j)

pub loop-k-preserved : goal.loop-k-preserved
loop-k-preserved g c = (omega arith, omega arith, sym (up_step _ _ _ _ c.loop-k-test.true) ∙ c.loop-k.invariant.2)

pub returns : goal.returns
returns g c =
    answers _ _ _ _ (omega (arith, c.size.ensures, c.if-h-size.false))
    (sym (top _ _ _ _ c.loop-k-test.false) ∙ c.loop-k.invariant.2 ∙ led g (goal.at.returns g c).Joined-i-eq0)
