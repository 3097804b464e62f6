-- What a skin means, as one mesh.
use Rattle.std.specs.Prelude.{◌≡◌, ℕ}
use Rattle.mesh.specs.Mesh.{Mesh}
use Rattle.skin.specs.declared.skin.Skin.{Ghosts}

abbrev pub mesh : {X : Type 0} → Ghosts X → X → Mesh
mesh k s = record { n = k.n s; next = k.next s; prev = k.prev s; twin = k.twin s }

-- two meshes say the same of dart h
pub record Told (a b : Mesh) (h : ℕ) : Type 0 where
  pub next : a.next h ≡ b.next h
  pub prev : a.prev h ≡ b.prev h
  pub twin : a.twin h ≡ b.twin h
