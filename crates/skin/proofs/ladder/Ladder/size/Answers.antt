use Rattle.std.proofs.Common.{sym, ap, ◌∙◌}
use Rattle.skin.specs.Skins.{mesh}
use Rattle.mesh.proofs.RungLaws.{level_zero, size_more, size_none}
use Rattle.skin.proofs.ladder.Ladder.size.Goals as goal
use Rattle.skin.proofs.ladder.Ladder.size.Goals.{then-n-le-QUARTER, else-n-le-QUARTER}

pub loop-i-init : goal.loop-i-init
loop-i-init g c = c.n-n.ensures ∙ sym (ap (λ M. M.n) (level_zero c.args.self.now.bits (mesh g.S.Skin c.args.self.now.base)))

pub loop-i-preserved : goal.loop-i-preserved
loop-i-preserved g c =
    elim c.if-n-le-QUARTER.branch [
      | then-n-le-QUARTER w ↦ size_more _ _ _ c.loop-i.n _ c.loop-i.invariant w.if-n-le-QUARTER.true w.n-is
      | else-n-le-QUARTER w ↦ size_none _ _ _ c.loop-i.n _ c.loop-i.invariant w.if-n-le-QUARTER.false w.n-is
    ]
