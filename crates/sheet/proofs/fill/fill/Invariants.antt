use Rattle.std.proofs.Common.{◌≡◌, length}
use Rattle.sheet.proofs.Forms.{Left}
use Rattle.sheet.proofs.Fillings.{Filling}
use Rattle.sheet.proofs.fill.fill.Given as goal

abbrev pub invariant-loop-place : goal.invariant-loop-place
invariant-loop-place g l =
    (l.reader.text.now ≡ l.initial.reader.text.now)
    × Left g.T.Item.form l.initial.reader.text.now (length l.initial.table) l.initial.reader.at l.place-index l.reader.at
    × Filling g.T.Item.form l.initial.reader.text.now l.initial.reader.at (length l.initial.table) l.place-index l.reader.at l.initial.table l.table
