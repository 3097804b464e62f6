use Rattle.std.proofs.Common.{◌≡◌, ℕ, length, get_or, ap, ◌∙◌, arith}
use Rattle.closing.specs.Sheet.{darts, twin}
use Rattle.closing.specs.Whole.{whole}
use Rattle.closing.proofs.Turning.{back}
use Rattle.closing.proofs.vertices.Rings.turn.Goals as goal

pub bounds-self-self : goal.bounds-self-self
bounds-self-self c =
    let s = whole c.args.self.now.edges.sheet in
    let t = c.args.self.now.twinned in
    let n : length c.args.self.now.edges.next.now ≡ darts s = t.laid.next.long in
    let e : get_or c.args.self.now.twin.now c.args.h 0 ≡ twin s c.args.h = t.twins.at c.args.h c.requires in
    let b = (back s t.new t.paired c.args.h c.requires).below in
    omega arith

pub returns : goal.returns
returns c =
    let s = whole c.args.self.now.edges.sheet in
    let t = c.args.self.now.twinned in
    let b = (back s t.new t.paired c.args.h c.requires).below in
    ap (λ (x : ℕ). get_or c.args.self.now.edges.next.now x 0) (t.twins.at c.args.h c.requires) ∙ t.laid.next.at (twin s c.args.h) b
