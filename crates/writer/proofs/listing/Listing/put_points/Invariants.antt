-- the lines of the vertices whose smallest darts came so far
use Rattle.sheet.specs.Sheet.{point_text}
use Rattle.writer.specs.Pages.{Grows}
use Rattle.writer.specs.Points.{point_at}
use Rattle.writer.proofs.ByLine.{lines}
use Rattle.writer.proofs.listing.Listing.put_points.Given as goal

abbrev pub invariant-loop-h : goal.invariant-loop-h
invariant-loop-h g l = Grows (lines point_text (point_at l.self.points.now) l.yielded) l.initial.page l.page
