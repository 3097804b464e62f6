use Rattle.std.proofs.Common.{rules}
use Rattle.mesh.proofs.RungLaws.{level_add}
use Rattle.skin.proofs.ladder.Ladder.add.Goals as goal

pub returns-clause-mesh : goal.returns-clause-mesh
returns-clause-mesh g c = λ m. level_add _ _ _ m (search rules)
