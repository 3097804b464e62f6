-- Skins that mean the same have the same counts.
use Rattle.std.proofs.Common.{◌≡◌, ◌/◌}
use Rattle.mesh.specs.Mesh.{Mesh, Lawful, Same}
use Rattle.mesh.proofs.Leads.{vertices_same, faces_same}
use Rattle.skin.specs.Counts.{counting}

pub counting_same : (a b : Mesh) → Lawful a → Same a b → counting a ≡ counting b
counting_same a b l s = λ i. record { vertices = vertices_same a b l s i; edges = s.n i / 2; faces = faces_same a b l s i }
