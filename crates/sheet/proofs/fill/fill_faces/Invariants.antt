use Rattle.std.proofs.Common.{◌≡◌, ◌≤◌, length}
use Rattle.sheet.proofs.Fillings.{FillingFaces}
use Rattle.sheet.proofs.fill.fill_faces.Given as goal

abbrev pub invariant-loop-sides : goal.invariant-loop-sides
invariant-loop-sides l =
    (l.reader.text.now ≡ l.initial.reader.text.now)
    × FillingFaces l.initial.reader.text.now l.initial.reader.at (length l.initial.lengths) l.sides-index l.reader.at l.filled l.initial.lengths l.initial.corners l.lengths l.corners
    × (l.filled ≤ length l.corners)
