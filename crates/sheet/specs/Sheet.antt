-- The form of a sheet, and how a sheet is written.
use Rattle.std.specs.Prelude.{ℕ, ◌≤◌, List, ◌++◌, length, codes, decimal}
use Rattle.std.specs.List.{flat_map, AllByRecursion}
use Rattle.std.specs.Fmt.{signed_decimal}
use Rattle.point.specs.declared.solid.SolidRecord.{SolidRecord}
use Rattle.point.specs.Range.{InRange}
use Rattle.sheet.specs.Form.{Form, gives, token, natural, coordinate, end, after, times, blank, line_end}

-- points, and faces as the vertex numbers of their corners
pub record Sheet : Type 0 where
  pub points : List SolidRecord
  pub faces : List (List ℕ)

abbrev pub corners_of : List (List ℕ) → List ℕ
corners_of fs = flat_map (λ vs. vs) fs

abbrev pub corner_count : List (List ℕ) → ℕ
corner_count fs = length (corners_of fs)

-- x y z
abbrev pub point_line : Form SolidRecord
point_line =
    coordinate (λ x. token blank (coordinate (λ y. token blank (coordinate (λ z. token line_end (gives (record { x = x; y = y; z = z })))))))

-- a vertex number after a blank
abbrev pub corner : Form ℕ
corner = token blank (natural 0 1048575 (λ v. gives v))

-- k and k vertex numbers
abbrev pub face_line : Form (List ℕ)
face_line = natural 1 64 (λ k. after (times k corner) (λ vs. token line_end (gives vs)))

-- a word and a number
abbrev pub header : List ℕ → Form ℕ
header w = token w (token blank (natural 0 1048576 (λ n. token line_end (gives n))))

-- the last line, and the end of the text
abbrev pub closing_line : Form (Unit {0})
closing_line = token (codes "end") (token line_end (end (gives tt)))

-- what follows the faces, and what follows the points
abbrev pub closed : List SolidRecord → List (List ℕ) → Form Sheet
closed ps fs = after closing_line (λ _. gives (record { points = ps; faces = fs }))

abbrev pub faced : List SolidRecord → Form Sheet
faced ps = after (header (codes "faces")) (λ m. after (times m face_line) (closed ps))

abbrev pub sheet : Form Sheet
sheet = after (header (codes "points")) (λ n. after (times n point_line) faced)

-- how a sheet is written
abbrev pub point_text : SolidRecord → List ℕ
point_text p = signed_decimal p.x ++ (blank ++ (signed_decimal p.y ++ (blank ++ (signed_decimal p.z ++ line_end))))

abbrev pub face_text : List ℕ → List ℕ
face_text vs = decimal (length vs) ++ (flat_map (λ v. blank ++ decimal v) vs ++ line_end)

abbrev pub sheet_text : Sheet → List ℕ
sheet_text s =
    codes "points" ++ (blank ++ (decimal (length s.points) ++ (line_end ++ (flat_map point_text s.points ++
    (codes "faces" ++ (blank ++ (decimal (length s.faces) ++ (line_end ++ (flat_map face_text s.faces ++ (codes "end" ++ line_end))))))))))

abbrev pub PointIn : SolidRecord → Type 0
PointIn p = InRange p.x × InRange p.y × InRange p.z

abbrev pub FaceIn : List ℕ → Type 0
FaceIn vs = (1 ≤ length vs) × (length vs ≤ 64) × AllByRecursion (λ v. v ≤ 1048575) vs

-- every number of the sheet is in its range
pub record Ranged (s : Sheet) : Type 0 where
  pub few_points : length s.points ≤ 1048576
  pub few_faces : length s.faces ≤ 1048576
  pub points_in : AllByRecursion PointIn s.points
  pub faces_in : AllByRecursion FaceIn s.faces
