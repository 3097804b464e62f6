use Rattle.std.proofs.Common.{◌≡◌, ◌*◌, ◌≤◌, length, refl}
use Rattle.sheet.specs.Sheet.{face_line, corner_count}
use Rattle.sheet.proofs.Forms.{Counted}
use Rattle.sheet.proofs.Sheets.{count_more}
use Rattle.sheet.proofs.judge.pass_faces.Given as goal

abbrev pub invariant-loop-i : goal.invariant-loop-i
invariant-loop-i l =
    (l.reader.text.now ≡ l.initial.reader.text.now)
    × Counted face_line length corner_count refl count_more l.initial.reader.text.now l.n l.initial.reader.at l._i l.reader.at l.corners
    × (l.corners ≤ 64 * l._i)
