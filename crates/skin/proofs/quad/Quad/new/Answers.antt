use Rattle.std.proofs.Common.{refl}
use Rattle.mesh.proofs.Figures.{quad_counts, split_counts}
use Rattle.mesh.proofs.Shapes.{split_shape}
use Rattle.skin.specs.Skins.{mesh}
use Rattle.skin.proofs.quad.Quad.new.Goals as goal

pub returns : goal.returns
returns g c =
    let m = mesh g.S.Skin c.args.base in
    let l = g.S.Skin.lawful c.args.base in
    record { base = refl; counts = quad_counts m l; split = λ b. record { counts = split_counts m l b; shape = split_shape m l b } }
