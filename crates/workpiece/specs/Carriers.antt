-- What a carrier means: the mesh whose vertices carry the points, and that it is one.
use Rattle.mesh.specs.Mesh.{Mesh, Lawful, flipped}
use Rattle.mesh.specs.Rungs.{level}
use Rattle.mesh.proofs.RungLaws.{level_lawful}
use Rattle.mesh.proofs.Same.{flipped_lawful}
use Rattle.skin.specs.Skins.{mesh}
use Rattle.skin.specs.declared.skin.Skin.{Ghosts}
use Rattle.workpiece.specs.declared.carrier.Carrier.{Carrier}

-- the top of the ladder, or its Dual where the flag is set
abbrev pub carried : {X : Type 0} → Ghosts X → Carrier X → Mesh
carried k c = flipped c.dual (level c.ladder.count c.ladder.bits (mesh k c.ladder.base))

pub carried_lawful : {X : Type 0} (k : Ghosts X) (c : Carrier X) → Lawful (carried k c)
carried_lawful k c =
    flipped_lawful c.dual (level c.ladder.count c.ladder.bits (mesh k c.ladder.base))
    (level_lawful c.ladder.count c.ladder.bits (mesh k c.ladder.base) (k.lawful c.ladder.base))
