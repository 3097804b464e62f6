use Rattle.std.proofs.Common.{◌≡◌, length, sym, ◌∙◌, ⊎_elim, arith}
use Rattle.std.proofs.lemmas.Bool.{cases_lt, lt-ltb, le-ltb}
use Rattle.closing.specs.Sheet.{darts}
use Rattle.closing.specs.Whole.{whole}
use Rattle.closing.proofs.VertexRings.{used_at, one_ring, more_rings, parted_order}
use Rattle.closing.proofs.vertices.Rings.has_several.Goals as goal

pub bounds-self-p : goal.bounds-self-p
bounds-self-p c =
    let e = c.args.self.now.edges in
    let s = whole e.sheet in
    let p = c.position-p.result in
    let a = used_at s e.order.now e.ordered c.args.self.now.used c.args.v p c.requires.below c.position-p.ensures in
    let n : length e.order.now ≡ darts s = e.ordered.long in
    let l = a.0 in
    omega arith

pub ring_length-requires : goal.ring_length-requires
ring_length-requires c =
    let e = c.args.self.now.edges in
    let s = whole e.sheet in
    let p = c.position-p.result in
    let a = used_at s e.order.now e.ordered c.args.self.now.used c.args.v p c.requires.below c.position-p.ensures in
    e.ordered.below p a.0

pub overflow_sub-result : goal.overflow_sub-result
overflow_sub-result c = parted_order (whole c.args.self.now.edges.sheet) c.args.self.now.edges.order.now c.args.v c.position-p.result c.position-q.result c.position-p.ensures c.position-q.ensures

pub returns : goal.returns
returns c =
    let e = c.args.self.now.edges in
    let s = whole e.sheet in
    let p = c.position-p.result in
    let a = used_at s e.order.now e.ordered c.args.self.now.used c.args.v p c.requires.below c.position-p.ensures in
    let t = c.args.self.now.twinned in
    let q = c.position-q.result in
    let r = c.ring_length.result in
    ⊎_elim
    (λ l. lt-ltb r _ l ∙ sym (more_rings s e.order.now t.new t.paired e.ordered c.args.v p c.position-p.ensures a.0 a.1 r c.ring_length.ensures q c.position-q.ensures l))
    (λ l. le-ltb r _ l ∙ sym (one_ring s e.order.now t.new t.paired e.ordered c.args.v p c.position-p.ensures a.0 a.1 r c.ring_length.ensures q c.position-q.ensures l))
    (cases_lt r _)
