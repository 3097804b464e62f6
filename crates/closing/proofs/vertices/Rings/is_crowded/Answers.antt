use Rattle.std.proofs.Common.{◌≡◌, length, sym, ◌∙◌, ⊎_elim, arith}
use Rattle.std.proofs.lemmas.Bool.{cases_lt, lt-ltb, le-ltb}
use Rattle.mesh.proofs.Smallest.{none_below}
use Rattle.closing.specs.Sheet.{darts, several}
use Rattle.closing.specs.Whole.{whole}
use Rattle.closing.proofs.VertexRings.{used_at, over, not_over}
use Rattle.closing.proofs.vertices.Rings.is_crowded.Goals as goal

pub bounds-self-p : goal.bounds-self-p
bounds-self-p c =
    let e = c.args.self.now.edges in
    let s = whole e.sheet in
    let p = c.position-p.result in
    let a = used_at s e.order.now e.ordered c.args.self.now.used c.args.v p c.requires.below c.position-p.ensures in
    let n : length e.order.now ≡ darts s = e.ordered.long in
    let l = a.0 in
    omega arith

pub ring_length-requires : goal.ring_length-requires
ring_length-requires c =
    let e = c.args.self.now.edges in
    let s = whole e.sheet in
    let p = c.position-p.result in
    let a = used_at s e.order.now e.ordered c.args.self.now.used c.args.v p c.requires.below c.position-p.ensures in
    e.ordered.below p a.0

pub returns : goal.returns
returns c =
    let e = c.args.self.now.edges in
    let s = whole e.sheet in
    let p = c.position-p.result in
    let a = used_at s e.order.now e.ordered c.args.self.now.used c.args.v p c.requires.below c.position-p.ensures in
    let t = c.args.self.now.twinned in
    let r = c.ring_length.result in
    ⊎_elim
    (λ l. lt-ltb 64 r l ∙ sym (over s e.order.now t.new t.paired e.ordered c.args.v p c.position-p.ensures a.0 a.1 r c.ring_length.ensures l))
    (λ l. le-ltb 64 r l ∙ sym (not_over s e.order.now t.new t.paired e.ordered c.args.v p c.position-p.ensures a.0 a.1 r c.ring_length.ensures
    (none_below (several s) s.points c.requires.alone c.args.v c.requires.below) l))
    (cases_lt 64 r)
