-- What reading a sheet does: one outcome for each text and all tables, and what it means.
use Rattle.std.specs.Prelude.{◌≡◌, ℕ, cond, List, map, length, drop, Ok, Err, Result, nat_lt}
use Rattle.sheet.specs.declared.fault.TextFault.{TextFault}
use Rattle.sheet.specs.declared.fault.TextFault.TheVariants as fault
use Rattle.point.specs.declared.solid.SolidRecord.{SolidRecord}
use Rattle.sheet.specs.declared.tables.SheetTables.{SheetTables}
use Rattle.sheet.specs.declared.record.Sizes.{Sizes}
use Rattle.sheet.specs.declared.record.Layout.{Layout}
use Rattle.sheet.specs.First.{PastLimit, OffForm}
use Rattle.sheet.specs.Form.{judge, times}
use Rattle.sheet.specs.Sheet.{Sheet, sheet, sheet_text, Ranged, corners_of, corner_count, point_line, face_line}
use Rattle.sheet.specs.Fill.{over}

-- the tables of points, of face lengths and of corners
pub record Tables : Type 0 where
  pub points : List SolidRecord
  pub lengths : List ℕ
  pub corners : List ℕ

abbrev pub tables : List SolidRecord → List ℕ → List ℕ → Tables
tables ps ls cs = record { points = ps; lengths = ls; corners = cs }

-- what the tables that are lent hold
abbrev pub tables_of : SheetTables → Tables
tables_of t = tables t.points.now t.lengths.now t.corners.now

-- each of them is still the table that was lent
abbrev pub SameTables : SheetTables → SheetTables → Type 0
SameTables t u = (u.points.ghost_name ≡ t.points.ghost_name) × (u.lengths.ghost_name ≡ t.lengths.ghost_name) × (u.corners.ghost_name ≡ t.corners.ghost_name)

abbrev pub sizes : Sheet → Sizes
sizes s = record { points = length s.points; faces = length s.faces; corners = corner_count s.faces }

abbrev pub sized : Result (Sheet × ℕ) TextFault → Result Sizes TextFault
sized (Ok r) = Ok (sizes r.0)
sized (Err e) = Err e

-- a sheet in the first places of the tables, the other places as they were
abbrev pub holding : Sheet → Tables → Tables
holding s t = tables (over s.points t.points) (over (map length s.faces) t.lengths) (over (corners_of s.faces) t.corners)

-- whether tables have room for a sheet of some sizes: else the places that the first one too short should have
abbrev pub room_in : Tables → Sizes → Result (Unit {0}) TextFault
room_in t n =
    cond (nat_lt (length t.points) n.points) (Err (fault.Short n.points))
    (cond (nat_lt (length t.lengths) n.faces) (Err (fault.Short n.faces))
    (cond (nat_lt (length t.corners) n.corners) (Err (fault.Short n.corners)) (Ok tt)))

abbrev pub declined : TextFault → Tables → Result Sizes TextFault × Tables
declined e t = (Err e, t)

abbrev pub if_room : Result (Unit {0}) TextFault → Sheet → Tables → Result Sizes TextFault × Tables
if_room (Ok u) s t = (Ok (sizes s), holding s t)
if_room (Err e) s t = declined e t

-- the first table that is too short declines
abbrev pub stored : Sheet → Tables → Result Sizes TextFault × Tables
stored s t = if_room (room_in t (sizes s)) s t

abbrev pub settled : Result (Sheet × ℕ) TextFault → Tables → Result Sizes TextFault × Tables
settled (Ok r) t = stored r.0 t
settled (Err e) t = declined e t

-- the first wrong token declines, and then the tables
abbrev pub read : List ℕ → ℕ → Tables → Result Sizes TextFault × Tables
read text at t = settled (judge sheet text at) t

-- where a judged sheet's lines begin, and what they say
pub record Laid (text : List ℕ) (at : ℕ) (l : Layout) : Type 0 where
  pub ps : List SolidRecord
  pub fs : List (List ℕ)
  pub after_points : ℕ
  pub after_faces : ℕ
  pub last : ℕ
  pub points : judge (times l.sizes.points point_line) text l.points ≡ Ok (ps, after_points)
  pub faces : judge (times l.sizes.faces face_line) text l.faces ≡ Ok (fs, after_faces)
  pub whole : judge sheet text at ≡ Ok (record { points = ps; faces = fs }, last)
  pub counts : l.sizes ≡ sizes (record { points = ps; faces = fs })

abbrev pub Judged : List ℕ → ℕ → Result Layout TextFault → Type 0
Judged text at (Ok l) = Laid text at l
Judged text at (Err e) = judge sheet text at ≡ Err e

-- what reading means, in terms of the texts of sheets
pub record SheetLaw (text : List ℕ) (at : ℕ) (before : Tables) (r : Result Sizes TextFault) (after : Tables) : Type 0 where
  -- a text is accepted only if it is that of a sheet in range, and the tables hold that sheet
  pub only : (n : Sizes) → r ≡ Ok n → (s : Sheet) × Ranged s × (drop at text ≡ sheet_text s) × (n ≡ sizes s) × (after ≡ holding s before)
  -- the text of a sheet in range is declined only for a table that is too short for it
  pub every : (s : Sheet) → Ranged s → drop at text ≡ sheet_text s → (r, after) ≡ stored s before
  -- and it is the text of no other
  pub one : (s o : Sheet) → Ranged s → Ranged o → sheet_text s ≡ sheet_text o → s ≡ o
  -- any other text is declined at its first wrong token: with 9 if that is a number past the limit, and else with 8
  pub limit : (p : ℕ) → r ≡ Err (fault.Limit p) → PastLimit sheet_text Ranged text at p
  pub form : (p : ℕ) → r ≡ Err (fault.Form p) → OffForm sheet_text Ranged text at p

pub record ReadsSheet (text : List ℕ) (at : ℕ) (before : Tables) (r : Result Sizes TextFault) (after : Tables) : Type 0 where
  pub outcome : (r, after) ≡ read text at before
  pub law : SheetLaw text at before r after
