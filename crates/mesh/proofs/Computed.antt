-- The counts of meshes written out, computed.
use Rattle.std.proofs.Common.{refl}
use Rattle.mesh.specs.Mesh.{walk, ring}
use Rattle.mesh.specs.Count.{sum}
use Rattle.mesh.specs.Examples.{Figures}

pub figures : Figures
unfolding sum ring walk
figures =
    record {
      torus_1_1 = (refl, refl, refl);
      torus_split = (refl, refl, refl);
      triangles_2 = (refl, refl, refl);
      triangles_split = (refl, refl, refl);
      triangles_dual = (refl, refl, refl);
    }
