-- the lines of the faces whose smallest darts came so far
use Rattle.skin.specs.Skins.{mesh}
use Rattle.sheet.specs.Sheet.{face_text}
use Rattle.writer.specs.Listing.{corners_from}
use Rattle.writer.specs.Pages.{Grows}
use Rattle.writer.proofs.ByLine.{lines}
use Rattle.writer.proofs.listing.Listing.put_faces.Given as goal

abbrev pub invariant-loop-h : goal.invariant-loop-h
invariant-loop-h g l =
    let m = mesh g.S.Skin l.self.skin.now in
    Grows (lines face_text (corners_from m l.self.backward) l.yielded) l.initial.page l.page
