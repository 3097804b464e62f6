use Rattle.std.proofs.Common.{◌≡◌, ℕ, ◌+◌, ◌<◌, ◌≤◌, sym, ap, ◌∙◌, subst, ⊎_elim, add-one, arith, rules}
use Rattle.std.proofs.lemmas.Bool.{cases_eq}
use Rattle.mesh.specs.Mesh.{times, turn}
use Rattle.mesh.proofs.Rings.{times_zero, times_suc, times_keeps}
use Rattle.mesh.proofs.Periods.{steps_few}
use Rattle.closing.specs.Sheet.{darts, mesh}
use Rattle.closing.specs.Whole.{whole}
use Rattle.closing.proofs.Turning.{turn_below, unturn, turn_back}
use Rattle.closing.proofs.vertices.Rings.ring_length.Goals as goal

pub loop-d-init : goal.loop-d-init
loop-d-init c =
    let s = whole c.args.self.now.edges.sheet in
    let h = c.args.h in
    let f = turn (mesh s) in
    let b = c.requires in
    (c.turn-d.ensures ∙ sym (times_suc 0 f h ∙ ap f (times_zero f h)), omega arith, omega arith, λ j p u. absurd (omega arith))

pub turn-d-requires-in-loop-d : goal.turn-d-requires-in-loop-d
turn-d-requires-in-loop-d c =
    let s = whole c.args.self.now.edges.sheet in
    let t = c.args.self.now.twinned in
    let e = c.loop-d.invariant.0 in
    subst (λ (x : ℕ). x < darts s) (sym e) (times_keeps (darts s) (turn (mesh s)) (turn_below s t.new t.paired) c.loop-d.k c.args.h c.requires)

pub overflow_add-k : goal.overflow_add-k
overflow_add-k c = let b = c.args.self.now.twinned.laid.few in let d = c.loop-d.invariant.2 in search rules

-- k steps have not come back, so that there is room for one more
further : (c : goal.After-turn-d-in-loop-d) → (j : ℕ) → 0 < j → j < c.loop-d.k + 1 → times j (turn (mesh (whole c.args.self.now.edges.sheet))) c.args.h ≡ c.args.h → ⊥
further c j p u e = ⊎_elim (λ (q : j ≡ c.loop-d.k). c.loop-d-test.true (c.loop-d.invariant.0 ∙ ap (λ (x : ℕ). times x (turn (mesh (whole c.args.self.now.edges.sheet))) c.args.h) (sym q) ∙ e)) (λ q. c.loop-d.invariant.3 j p (omega arith) e) (cases_eq j c.loop-d.k)

room : (c : goal.After-turn-d-in-loop-d) → c.loop-d.k + 1 ≤ darts (whole c.args.self.now.edges.sheet)
room c =
    let s = whole c.args.self.now.edges.sheet in
    let t = c.args.self.now.twinned in
    steps_few (darts s) (turn (mesh s)) (unturn s t.new t.paired) (turn_below s t.new t.paired) (turn_back s t.new t.paired) c.args.h (c.loop-d.k + 1) c.requires (further c)

pub loop-d-smaller : goal.loop-d-smaller
loop-d-smaller c = let b = room c in omega arith

pub loop-d-preserved : goal.loop-d-preserved
loop-d-preserved c =
    let s = whole c.args.self.now.edges.sheet in
    let f = turn (mesh s) in
    let h = c.args.h in
    let k = c.loop-d.k in (
      c.turn-d-in-loop-d.ensures ∙ ap f c.loop-d.invariant.0 ∙ sym (times_suc k f h) ∙ ap (λ (x : ℕ). times x f h) (sym (add-one k)),
      omega arith,
      room c,
      further c,
    )

pub returns : goal.returns
returns c = record { positive = c.loop-d.invariant.1; back = sym c.loop-d.invariant.0 ∙ c.loop-d-test.false; least = c.loop-d.invariant.3 }
