-- A sheet that was read, as closing takes it.
use Rattle.std.specs.Prelude.{map, length}
use Rattle.sheet.specs.Sheet as text
use Rattle.closing.specs.Sheet.{Sheet, sheet}

-- how many points, how long each face is, and all corners
abbrev pub drawn : text.Sheet → Sheet
drawn s = sheet (length s.points) (map length s.faces) (text.corners_of s.faces)
