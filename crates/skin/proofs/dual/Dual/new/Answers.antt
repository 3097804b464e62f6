use Rattle.std.proofs.Common.{refl}
use Rattle.mesh.proofs.Same.{dual_dual}
use Rattle.mesh.proofs.Figures.{dual_counts}
use Rattle.skin.specs.Skins.{mesh}
use Rattle.skin.proofs.dual.Dual.new.Goals as goal

pub returns : goal.returns
returns g c =
    let m = mesh g.S.Skin c.args.base in
    let l = g.S.Skin.lawful c.args.base in
    record { base = refl; twice = dual_dual m l; counts = dual_counts m l }
