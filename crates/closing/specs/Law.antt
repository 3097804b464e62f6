-- A skin of a sheet, and the sheets that have one.
use Rattle.std.specs.Prelude.{◌≡◌, ℕ, ◌+◌, ◌<◌, ◌≤◌, length, ◌≢◌, slice_index}
use Rattle.std.specs.List.{range_with_len}
use Rattle.mesh.specs.Mesh.{Mesh, Lawful, times, ring, turn}
use Rattle.closing.specs.Numbering.{start, next}
use Rattle.closing.specs.Sheet.{Sheet, darts, from, to}

-- repeated f leads from g to h
abbrev pub Reaches : (ℕ → ℕ) → ℕ → ℕ → Type 0
Reaches f g h = (k : ℕ) × (times k f g ≡ h)

-- m is a skin on the darts of the sheet, with the sheet's faces for face rings and its vertices for vertex rings
pub record Skins (s : Sheet) (m : Mesh) : Type 0 where
  pub n : m.n ≡ darts s
  pub lawful : Lawful m
  pub next : (h : ℕ) → h < darts s → m.next h ≡ next s.lengths h
  -- from the first dart of a face on, its face ring has the darts of the face's corners, in their order
  pub faces : (f : ℕ) → f < length s.lengths → ring m.next (start s.lengths f) ≡ range_with_len (start s.lengths f) (slice_index s.lengths f)
  -- two darts start at the same vertex exactly if they are in one vertex ring
  pub vertex_ring : (g h : ℕ) → g < darts s → h < darts s → Reaches (turn m) g h → from s g ≡ from s h
  pub ring_vertex : (g h : ℕ) → g < darts s → h < darts s → from s g ≡ from s h → Reaches (turn m) g h

-- a sheet that can be closed
pub record Closable (s : Sheet) : Type 0 where
  pub faces : (f : ℕ) → f < length s.lengths → (3 ≤ slice_index s.lengths f) × (slice_index s.lengths f ≤ 64)
  pub few : darts s ≤ 1048576
  -- its corners name vertices that are there, and every vertex is named
  pub known : (h : ℕ) → h < darts s → from s h < s.points
  pub used : (v : ℕ) → v < s.points → (h : ℕ) × (h < darts s) × (from s h ≡ v)
  -- no face names a vertex twice, and no two darts go from the same vertex to the same vertex
  pub once : (f i j : ℕ) → f < length s.lengths → i < j → j < slice_index s.lengths f → from s (start s.lengths f + i) ≢ from s (start s.lengths f + j)
  pub new : (g h : ℕ) → g < darts s → h < darts s → from s g ≡ from s h → to s g ≡ to s h → g ≡ h
  -- some skin has these faces and vertices
  pub skin : (m : Mesh) × Skins s m
