use Rattle.mesh.proofs.Leaders.{leaders_whole}
use Rattle.skin.proofs.leaders.leaders.Goals as goal

pub returns : goal.returns
returns g c = leaders_whole _ _
