use Rattle.std.proofs.Common.{◌≡◌, ◌≤◌, length, get_or, sym, ap, ◌∙◌, ⊎_elim, not, arith}
use Rattle.std.proofs.lemmas.Bool.{cases_eq, eq-eqb, ne_eqb}
use Rattle.closing.specs.Sheet.{darts, from}
use Rattle.closing.specs.Whole.{whole}
use Rattle.closing.proofs.VertexRings.{bare_none, bare_not}
use Rattle.closing.proofs.edges.Edges.is_bare.Goals as goal

pub returns-in-Some : goal.returns-in-Some
returns-in-Some c =
    let e = c.args.self.now in
    let s = whole e.sheet in
    let v = c.args.v in
    let p = c.position.result in
    let n : length e.order.now ≡ darts s = e.ordered.long in
    let f = c.in-Some.ensures.lookup.3 in
    let starts : c.ends.result.0 ≡ from s (get_or e.order.now p 0) = ap (λ x. x.0) c.ends.ensures ∙ ap (from s) (f.1 0) in
    let l = f.0 in
    ⊎_elim
    (λ q. ap not (eq-eqb _ _ q) ∙ sym (bare_not s v (get_or e.order.now p 0) (e.ordered.below p (omega arith)) (sym starts ∙ q)))
    (λ ne. ap not (ne_eqb _ _ ne) ∙ sym (bare_none s e.order.now e.ordered v p c.position.ensures (λ a b. ne (starts ∙ b))))
    (cases_eq c.ends.result.0 v)

pub returns-in-None : goal.returns-in-None
returns-in-None c =
    let e = c.args.self.now in
    let s = whole e.sheet in
    let n : length e.order.now ≡ darts s = e.ordered.long in
    let past : length e.order.now ≤ c.position.result = c.in-None.ensures.lookup.3 in
    sym (bare_none s e.order.now e.ordered c.args.v c.position.result c.position.ensures (λ a b. omega arith))
