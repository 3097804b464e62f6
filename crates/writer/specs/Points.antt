-- The point that a place of a point table means, as a sheet has it.
use Rattle.std.specs.Prelude.{ℕ, List, pos, slice_index_or}
use Rattle.point.specs.Points.{coordinate}
use Rattle.point.specs.Solids.{numbers_of, meant_by}
use Rattle.point.specs.declared.solid.SolidRecord.{SolidRecord}
use Rattle.point.specs.declared.solid.SolidPoint.{SolidPoint}

-- the coordinates of a point
abbrev pub record_of : SolidPoint → SolidRecord
record_of p = record { x = coordinate (numbers_of p) 0; y = coordinate (numbers_of p) 1; z = coordinate (numbers_of p) 2 }

-- those of the point that a record means: its numbers, or 0, 0, 0 where one of them is out of range
abbrev pub meant : SolidRecord → SolidRecord
meant r = record_of (meant_by r)

abbrev pub origin : SolidRecord
origin = record { x = pos 0; y = pos 0; z = pos 0 }

-- those of the point of a place
abbrev pub point_at : List SolidRecord → ℕ → SolidRecord
point_at table h = meant (slice_index_or table h origin)
