use Rattle.std.proofs.Common.{◌≡◌, ◌≤◌, length, get_or, sym, ap, ◌∙◌, subst, arith}
use Rattle.std.proofs.lemmas.Bool.{both_ways, and_from, eq-eqb}
use Rattle.closing.specs.Sheet.{darts, from}
use Rattle.closing.specs.Whole.{whole}
use Rattle.closing.specs.Edges.{Found}
use Rattle.closing.proofs.EdgeOrder.{found_at, end_read}
use Rattle.closing.proofs.edges.Edges.find.Goals as goal

pub returns-in_err-h : goal.returns-in_err-h
returns-in_err-h c =
    let e = c.args.self.now in
    let s = whole e.sheet in
    let n : length e.order.now ≡ darts s = e.ordered.long in
    let past : length e.order.now ≤ c.position.result = c.in_err-h.ensures.lookup.3 in
    subst (Found s c.args.a c.args.b) (sym c.from_residual.ensures)
    (λ h g. let l = (found_at s e.order.now e.ordered c.args.a c.args.b c.position.result c.position.ensures h g).0 in omega arith)

pub returns-else-eq : goal.returns-else-eq
returns-else-eq c = λ h g.
    let e = c.args.self.now in
    let s = whole e.sheet in
    let p = c.position.result in
    let f = found_at s e.order.now e.ordered c.args.a c.args.b p c.position.ensures h g in
    let is : c.in_ok-h.field-0.now ≡ get_or e.order.now p 0 = c.in_ok-h.ensures.lookup.3.1 0 in
    let a : c.ends.result.0 ≡ c.args.a = ap (λ x. x.0) c.ends.ensures ∙ ap (from s) is ∙ f.1 in
    let b : c.ends.result.1 ≡ c.args.b =
    ap (λ x. x.1) c.ends.ensures ∙ ap (λ d. get_or s.corners (get_or e.next.now d 0) 0) is
    ∙ end_read s e.next.now e.laid (get_or e.order.now p 0) (e.ordered.below p f.0) ∙ f.2 in
    both_ways c.eq.result c.if-eq.false (c.eq.ensures ∙ and_from _ _ (eq-eqb _ _ a) (eq-eqb _ _ b))
