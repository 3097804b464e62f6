-- The flag turned means the Dual.
use Rattle.mesh.specs.Rungs.{level}
use Rattle.mesh.proofs.RungLaws.{level_lawful}
use Rattle.mesh.proofs.Same.{flipped_not}
use Rattle.skin.specs.Skins.{mesh}
use Rattle.workpiece.proofs.carrier.Carrier.to_dual.Goals as goal

pub returns-clause-mesh : goal.returns-clause-mesh
returns-clause-mesh g c =
    let s = c.args.self.now in
    let m = mesh g.S.Skin s.ladder.base in
    flipped_not s.dual (level s.ladder.count s.ladder.bits m) (level_lawful s.ladder.count s.ladder.bits m (g.S.Skin.lawful s.ladder.base))
