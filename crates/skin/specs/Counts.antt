-- What the calls that count answer.
use Rattle.std.specs.Prelude.{◌≡◌, ℕ, ◌*◌, ◌<◌}
use Rattle.mesh.specs.Mesh.{Mesh, turn}
use Rattle.mesh.specs.Count.{vertices, edges, faces, Classes, Once}
use Rattle.skin.specs.declared.count.Ring.{Ring}
use Rattle.skin.specs.declared.count.Ring.TheVariants.{Face, Back, Vertex}
use Rattle.skin.specs.declared.count.Counts.{Counts}

-- the step from dart to dart along a ring
abbrev pub along : Ring → Mesh → ℕ → ℕ
along Face m h = m.next h
along Back m h = m.prev h
along Vertex m h = turn m h

abbrev pub counting : Mesh → Counts
counting m = record { vertices = vertices m; edges = edges m; faces = faces m }

-- the counts are numbers of classes: of darts that turn joins, of twins, of darts that next joins;
-- and each ring is counted at exactly one dart, its smallest
pub record RingCounts (m : Mesh) (c : Counts) : Type 0 where
  pub vertices : Classes m.n (turn m) c.vertices
  pub edges : 2 * c.edges ≡ m.n
  pub faces : Classes m.n m.next c.faces
  pub once : (h : ℕ) → h < m.n → Once m.next h × Once (turn m) h
