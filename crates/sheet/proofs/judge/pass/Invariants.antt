use Rattle.std.proofs.Common.{◌≡◌}
use Rattle.sheet.proofs.Forms.{Left}
use Rattle.sheet.proofs.judge.pass.Given as goal

abbrev pub invariant-loop-i : goal.invariant-loop-i
invariant-loop-i g l =
    (l.reader.text.now ≡ l.initial.reader.text.now)
    × Left g.T.Item.form l.initial.reader.text.now l.n l.initial.reader.at l._i l.reader.at
