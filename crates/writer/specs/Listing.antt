-- The sheet of a mesh and of the points of its darts.
use Rattle.std.specs.Prelude.{ℕ, ◌+◌, ◌*◌, min, Bool, cond, List, [], ◌∷◌, map}
use Rattle.mesh.specs.Mesh.{Mesh, turn, ring}
use Rattle.mesh.specs.Count.{leaders, rings, vertices, faces}
use Rattle.sheet.specs.Sheet.{Sheet}
use Rattle.point.specs.declared.solid.SolidRecord.{SolidRecord}
use Rattle.writer.specs.Points.{point_at}

-- the least of a and the numbers of a list
unfoldable pub least : ℕ → List ℕ → ℕ
least a [] = a
least a (x ∷ xs) = least (min a x) xs

-- the smallest dart of the ring of h under f
unfoldable pub lead : (ℕ → ℕ) → ℕ → ℕ
lead f h = least h (ring f h)

-- the number of the start vertex of a dart: how many vertices have a smaller smallest dart
abbrev pub vertex_of : Mesh → ℕ → ℕ
vertex_of m h = rings (turn m) (lead (turn m) h)

-- how a face is followed
abbrev pub way : Mesh → Bool → ℕ → ℕ
way m backward = cond backward m.prev m.next

-- the vertex numbers of the corners of a face, from dart h on
abbrev pub corners_from : Mesh → Bool → ℕ → List ℕ
corners_from m backward h = map (vertex_of m) (ring (way m backward) h)

-- vertices and faces in the order of their smallest darts, each face from there on
abbrev pub sheet_of : Mesh → List SolidRecord → Bool → Sheet
sheet_of m table backward =
    record {
      points = map (point_at table) (leaders (turn m) m.n);
      faces = map (corners_from m backward) (leaders m.next m.n);
    }

-- the bytes that a buffer must have
abbrev pub bytes_needed : Mesh → ℕ
bytes_needed m = 33 + 30 * vertices m + 3 * faces m + 8 * m.n
