-- Meshes written out, and their counts.
use Rattle.std.specs.Prelude.{◌≡◌, ℕ, [], ◌∷◌}
use Rattle.mesh.specs.Mesh.{Mesh, dual}
use Rattle.mesh.specs.Tables.{tables}
use Rattle.mesh.specs.Cells.{torus}
use Rattle.mesh.specs.Count.{vertices, edges, faces, split}

-- two triangles, 0 1 2 and 0 2 1
abbrev pub triangles : Mesh
triangles = tables 6 (1 ∷ 2 ∷ 0 ∷ 4 ∷ 5 ∷ 3 ∷ []) (2 ∷ 0 ∷ 1 ∷ 5 ∷ 3 ∷ 4 ∷ []) (5 ∷ 4 ∷ 3 ∷ 2 ∷ 1 ∷ 0 ∷ [])

-- how many vertices, edges and faces
abbrev pub Counts : Mesh → ℕ → ℕ → ℕ → Type 0
Counts m v e f = (vertices m ≡ v) × (edges m ≡ e) × (faces m ≡ f)

pub record Figures : Type 0 where
  pub torus_1_1 : Counts (torus 1 1) 1 2 1
  pub torus_split : Counts (split (torus 1 1)) 4 8 4
  pub triangles_2 : Counts triangles 3 3 2
  pub triangles_split : Counts (split triangles) 6 12 8
  pub triangles_dual : Counts (dual (split triangles)) 8 12 6
