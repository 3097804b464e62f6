-- What the sheet of a mesh tells of its vertices, faces and points.
use Rattle.std.specs.Prelude.{◌≡◌, ℕ, ◌<◌, ◌≤◌, Bool, List, [], length, slice_index_or}
use Rattle.mesh.specs.Mesh.{Mesh, turn, times}
use Rattle.mesh.specs.Count.{rings, vertices, faces}
use Rattle.sheet.specs.Sheet.{sheet_text, corner_count, Ranged}
use Rattle.point.specs.declared.solid.SolidRecord.{SolidRecord}
use Rattle.writer.specs.Points.{origin, point_at}
use Rattle.writer.specs.Listing.{lead, vertex_of, corners_from, sheet_of, bytes_needed}

-- the place of the face of a dart among the faces: how many faces have a smaller smallest dart
abbrev pub face_of : Mesh → ℕ → ℕ
face_of m h = rings m.next (lead m.next h)

-- d is the smallest dart of the ring of h under f
pub record Smallest (f : ℕ → ℕ) (h d : ℕ) : Type 0 where
  pub steps : ℕ
  pub reached : times steps f h ≡ d
  pub lowest : (k : ℕ) → d ≤ times k f h

-- the rings of f are numbered without a gap, in the order of their smallest darts
pub record Numbers (n : ℕ) (f number : ℕ → ℕ) (count : ℕ) : Type 0 where
  pub smallest : (h : ℕ) → h < n → Smallest f h (lead f h)
  pub below : (h : ℕ) → h < n → number h < count
  pub every : (x : ℕ) → x < count → (h : ℕ) × (h < n) × (number h ≡ x)
  -- two darts have one number exactly if they are in one ring
  pub together : (h i : ℕ) → h < n → number (times i f h) ≡ number h
  pub joined : (h d : ℕ) → h < n → d < n → number h ≡ number d → (i : ℕ) × (times i f h ≡ d)
  pub ordered : (h d : ℕ) → h < n → d < n → lead f h < lead f d → number h < number d

pub record Told (m : Mesh) (table : List SolidRecord) (backward : Bool) : Type 0 where
  -- as many points as vertices, as many faces as faces, as many corners as darts
  pub points_counted : length (sheet_of m table backward).points ≡ vertices m
  pub faces_counted : length (sheet_of m table backward).faces ≡ faces m
  pub corners_counted : corner_count (sheet_of m table backward).faces ≡ m.n
  pub vertices_numbered : Numbers m.n (turn m) (vertex_of m) (vertices m)
  pub faces_numbered : Numbers m.n m.next (face_of m) (faces m)
  -- the point of a vertex is that of its smallest dart
  pub point : (h : ℕ) → h < m.n → slice_index_or (sheet_of m table backward).points (vertex_of m h) origin ≡ point_at table (lead (turn m) h)
  -- the face of a dart has the vertices of its corners, from its smallest dart on
  pub face : (h : ℕ) → h < m.n → slice_index_or (sheet_of m table backward).faces (face_of m h) [] ≡ corners_from m backward (lead m.next h)
  -- every number is within a sheet's limits
  pub ranged : Ranged (sheet_of m table backward)
  -- the text is no longer than the bytes that a buffer must have
  pub bounded : length (sheet_text (sheet_of m table backward)) ≤ bytes_needed m
