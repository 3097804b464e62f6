use Rattle.std.proofs.Common.{ℕ, sym, ap, ◌∙◌, inl, inr, add-one, arith}
use Rattle.mesh.specs.Mesh.{times}
use Rattle.mesh.proofs.Rings.{times_zero, times_suc}
use Rattle.mesh.proofs.Judged.{walk_more, walk_ends}
use Rattle.skin.specs.Counts.{along}
use Rattle.skin.specs.Drawn.{drawn}
use Rattle.skin.proofs.table.scan.Inner.is_open.Goals as goal
use Rattle.skin.proofs.table.scan.Inner.is_open.Goals.{else-loop-k-test, then-loop-k-test+then-c-h}

pub loop-k-init : goal.loop-k-init
loop-k-init c =
    let f : ℕ → ℕ = along c.args.ring (drawn c.args.self.now.columns) in
    let h = c.args.h in
    (c.step-c.ensures.below, c.step-c.ensures.step ∙ sym (times_suc 0 f h ∙ ap f (times_zero f h)), λ i p l e. omega arith)

pub loop-k-preserved : goal.loop-k-preserved
loop-k-preserved c =
    let f : ℕ → ℕ = along c.args.ring (drawn c.args.self.now.columns) in
    let h = c.args.h in
    let k = c.loop-k._k in
    let inv = c.loop-k.invariant in (
      c.step-c-in-loop-k.ensures.below,
      c.step-c-in-loop-k.ensures.step ∙ ap f inv.1 ∙ sym (times_suc k f h) ∙ ap (λ j. times j f h) (sym (add-one k)),
      walk_more f h k c.loop-k.c inv.1 (omega arith) inv.2,
    )

pub returns : goal.returns
returns c =
    let f : ℕ → ℕ = along c.args.ring (drawn c.args.self.now.columns) in
    let inv = c.loop-k.invariant in
    walk_ends f c.args.h c.loop-k._k c.loop-k.c (omega arith) (omega arith) inv.1 inv.2
    (elim c.loop-k-test.branch [ else-loop-k-test w ↦ inl (omega arith) | then-loop-k-test+then-c-h w ↦ inr w.if-c-h.true ])
