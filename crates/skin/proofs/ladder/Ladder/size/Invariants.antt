use Rattle.std.proofs.Common.{◌≡◌}
use Rattle.mesh.specs.Rungs.{level}
use Rattle.skin.specs.Skins.{mesh}
use Rattle.skin.proofs.ladder.Ladder.size.Given as goal

abbrev pub invariant-loop-i : goal.invariant-loop-i
invariant-loop-i g l = l.n ≡ (level l._i l.self.bits (mesh g.S.Skin l.self.base)).n
