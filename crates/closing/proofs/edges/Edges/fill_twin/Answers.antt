use Rattle.std.proofs.Common.{◌≡◌, ℕ, length, sym, refl, ap, ◌∙◌, subst, arith, length-set}
use Rattle.mesh.proofs.Smallest.{none_more, some_at, none_zero}
use Rattle.closing.specs.Sheet.{darts, from, to, single, twin}
use Rattle.closing.specs.Whole.{whole}
use Rattle.closing.specs.Edges.{Goes}
use Rattle.closing.proofs.Scans.{at_set}
use Rattle.closing.proofs.EdgeOrder.{opposed, unopposed, end_read}
use Rattle.closing.proofs.edges.Edges.fill_twin.Goals as goal

pub loop-h-init : goal.loop-h-init
loop-h-init c = (refl, none_zero _, λ d l. absurd (omega arith))

pub returns-in-None : goal.returns-in-None
returns-in-None c =
    let s = whole c.args.self.now.sheet in
    let h = c.loop-h.h in
    let n : length c.args.self.now.next.now ≡ darts s = c.args.self.now.laid.next.long in
    let u : c.ends-from.result.0 ≡ from s h = ap (λ p. p.0) c.ends-from.ensures in
    let e : c.ends-from.result.1 ≡ to s h = ap (λ p. p.1) c.ends-from.ensures ∙ end_read s c.args.self.now.next.now c.args.self.now.laid h (omega arith) in
    record {
      answer = sym (some_at (single s) h c.loop-h.invariant.1 (unopposed s h (λ g w. c.in-None.ensures g (subst (λ (x : ℕ). Goes s x c.ends-from.result.0 g) (sym e) (subst (λ (x : ℕ). Goes s (to s h) x g) (sym u) w)))) (darts s) (omega arith));
      filled = λ q. let z : ◌≡◌ {A = ℕ} 0 1 = cc in absurd (omega arith);
    }

pub loop-h-preserved : goal.loop-h-preserved
loop-h-preserved c =
    let s = whole c.args.self.now.sheet in
    let l = c.loop-h in
    let h = l.h in
    let g = c.in-Some.g in
    let n : length c.args.self.now.next.now ≡ darts s = c.args.self.now.laid.next.long in
    let u : c.ends-from.result.0 ≡ from s h = ap (λ p. p.0) c.ends-from.ensures in
    let e : c.ends-from.result.1 ≡ to s h = ap (λ p. p.1) c.ends-from.ensures ∙ end_read s c.args.self.now.next.now c.args.self.now.laid h (omega arith) in
    let w = opposed s c.requires.new h g (omega arith) (subst (λ (x : ℕ). Goes s (to s h) x g) u (subst (λ (x : ℕ). Goes s x c.ends-from.result.0 g) e c.in-Some.ensures)) in (
      length-set l.twin h g ∙ l.invariant.0,
      none_more (single s) h l.invariant.1 w.0,
      λ d b. at_set (λ (x : ℕ). x ≡ twin s d) l.twin h g d (omega arith) (λ q. w.1 ∙ ap (twin s) (sym q)) (λ ne. l.invariant.2 d (omega arith)),
    )
