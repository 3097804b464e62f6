use Rattle.mesh.proofs.Computed.{figures}
use Rattle.mesh.proofs.figures_stand.Goals as goal

pub returns : goal.returns
returns c = figures
