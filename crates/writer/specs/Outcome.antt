-- What comes of writing a sheet.
use Rattle.std.specs.Prelude.{◌≡◌, ℕ, ◌<◌, ◌≤◌, Bool, false, List, length, take, Ok, Err, Result}
use Rattle.mesh.specs.Mesh.{Mesh}
use Rattle.sheet.specs.Sheet.{Sheet, sheet_text, corner_count}
use Rattle.sheet.specs.Fill.{over}
use Rattle.sheet.specs.Read.{Tables, sizes, holding, read}
use Rattle.point.specs.declared.solid.SolidRecord.{SolidRecord}
use Rattle.writer.specs.Listing.{sheet_of, bytes_needed}
use Rattle.writer.specs.Told.{Told}
use Rattle.writer.specs.Drawn.{Drawn}
use Rattle.writer.specs.declared.fault.WriteFault.{WriteFault}
use Rattle.writer.specs.declared.fault.WriteFault.TheVariants.{Points, Buffer, Memory}

-- the point table is looked at first, then the buffer; not written, the buffer is as it was
abbrev pub Outcome : Mesh → List SolidRecord → Bool → List ℕ → List ℕ → Result ℕ WriteFault → Type 0
Outcome m table backward was is (Err (Points k)) = (length table < m.n) × (k ≡ m.n) × (is ≡ was)
Outcome m table backward was is (Err (Buffer k)) = (m.n ≤ length table) × (length was < bytes_needed m) × (k ≡ bytes_needed m) × (is ≡ was)
Outcome m table backward was is (Err Memory) = (m.n ≤ length table) × (bytes_needed m ≤ length was) × (is ≡ was)
Outcome m table backward was is (Ok k) =
    (m.n ≤ length table) × (bytes_needed m ≤ length was) × (k ≡ length (sheet_text (sheet_of m table backward)))
    × (is ≡ over (sheet_text (sheet_of m table backward)) was)

-- the tables have a place for each point, face and corner of the sheet
pub record Roomy (s : Sheet) (t : Tables) : Type 0 where
  pub points : length s.points ≤ length t.points
  pub lengths : length s.faces ≤ length t.lengths
  pub corners : corner_count s.faces ≤ length t.corners

pub record Writes (m : Mesh) (table : List SolidRecord) (backward : Bool) (was is : List ℕ) (r : Result ℕ WriteFault) : Type 0 where
  pub outcome : Outcome m table backward was is r
  -- the sheet tells the vertices, faces and points
  pub told : Told m table backward
  -- the reader takes what was written for this sheet
  pub read_back : (k : ℕ) → r ≡ Ok k → (t : Tables) → Roomy (sheet_of m table backward) t
      → read (take k is) 0 t ≡ (Ok (sizes (sheet_of m table backward)), holding (sheet_of m table backward) t)
  -- of a mesh that was made from a sheet, that sheet is written
  pub same : (s : Sheet) → Drawn s m table → backward ≡ false → sheet_of m table backward ≡ s
