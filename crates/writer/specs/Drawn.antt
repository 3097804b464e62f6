-- A mesh that was made from a sheet: when what is written is the sheet again.
use Rattle.std.specs.Prelude.{◌≡◌, ℕ, suc, ◌<◌, List, [], length, take, slice_index, slice_index_or}
use Rattle.std.specs.List.{range_with_len}
use Rattle.mesh.specs.Mesh.{Mesh, turn, ring, times}
use Rattle.sheet.specs.Sheet.{Sheet, corners_of, corner_count, Ranged}
use Rattle.point.specs.declared.solid.SolidRecord.{SolidRecord}
use Rattle.writer.specs.Points.{origin}

-- the vertex that a corner names, the corners being counted through all faces
abbrev pub corner_at : Sheet → ℕ → ℕ
corner_at s h = slice_index (corners_of s.faces) h

-- the first corner of face f
abbrev pub start : Sheet → ℕ → ℕ
start s f = corner_count (take f s.faces)

-- m has a dart for each corner of s, in order, with the faces of s for face rings and its vertices for vertex rings,
-- s is in range and the table has the point of each corner, and the vertices of s are numbered in the order of their first corners
pub record Drawn (s : Sheet) (m : Mesh) (table : List SolidRecord) : Type 0 where
  pub darts : m.n ≡ corner_count s.faces
  pub face_rings : (f : ℕ) → f < length s.faces → ring m.next (start s f) ≡ range_with_len (start s f) (length (slice_index_or s.faces f []))
  pub one_vertex : (h i : ℕ) → h < m.n → corner_at s (times i (turn m) h) ≡ corner_at s h
  pub one_ring : (h d : ℕ) → h < m.n → d < m.n → corner_at s h ≡ corner_at s d → (i : ℕ) × (times i (turn m) h ≡ d)
  pub ranged : Ranged s
  pub points : (h : ℕ) → h < m.n → slice_index_or table h origin ≡ slice_index_or s.points (corner_at s h) origin
  pub known : (h : ℕ) → h < m.n → corner_at s h < length s.points
  pub used : (v : ℕ) → v < length s.points → (h : ℕ) × (h < m.n) × (corner_at s h ≡ v)
  pub in_order : (h v : ℕ) → h < m.n → corner_at s h ≡ suc v → (d : ℕ) × (d < h) × (corner_at s d ≡ v)
