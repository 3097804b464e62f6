-- What a split makes of a mesh: a vertex of four edges for each corner, a face for each vertex, edge and face.
use Rattle.std.specs.Prelude.{◌≡◌, ℕ, ◌+◌, ◌*◌, ◌<◌, List, [], ◌∷◌, map}
use Rattle.mesh.specs.Mesh.{Mesh, turn, ring}
use Rattle.mesh.specs.Count.{split, SplitCounts}

-- a list of four darts
abbrev pub four_of : ℕ → ℕ → ℕ → ℕ → List ℕ
four_of a b c d = a ∷ b ∷ c ∷ d ∷ []

pub record SplitShape (m : Mesh) : Type 0 where
  -- the four darts of a corner go round one vertex
  pub of_corner : (h : ℕ) → h < m.n → ring (turn (split m)) (4 * h) ≡ four_of (4 * h) (4 * h + 1) (4 * h + 2) (4 * h + 3)
  -- a vertex becomes a face of as many darts
  pub of_vertex : (h : ℕ) → h < m.n → ring (split m).next (4 * h) ≡ map (λ x. 4 * x) (ring (turn m) h)
  -- an edge becomes a face of four darts
  pub of_edge : (h : ℕ) → h < m.n → ring (split m).next (4 * h + 1) ≡ four_of (4 * h + 1) (4 * m.next h + 3) (4 * m.twin h + 1) (4 * turn m h + 3)
  -- a face becomes a face of as many darts, the other way round
  pub of_face : (h : ℕ) → h < m.n → ring (split m).next (4 * h + 2) ≡ map (λ x. 4 * x + 2) (ring m.prev h)

-- what a split is: how many vertices, edges and faces it makes, and which
pub record SplitLaw (m : Mesh) : Type 0 where
  pub counts : SplitCounts m
  pub shape : SplitShape m
