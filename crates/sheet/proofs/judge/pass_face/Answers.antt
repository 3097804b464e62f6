use Rattle.std.proofs.Common.{sym, ◌∙◌}
use Rattle.sheet.proofs.Forms.{broke_at}
use Rattle.sheet.proofs.Sheets.{face_corner_err, face_end_err, face_ok}
use Rattle.sheet.proofs.judge.pass_face.Goals as goal

pub returns-in_err-pass-clause-value : goal.returns-in_err-pass-clause-value
returns-in_err-pass-clause-value c =
    let text = c.args.reader.now.text.now in
    let same = c.in_ok-k.ensures.0 in
    let p = rw same at c.in_err-pass.ensures.1 in (
      c.in_err-pass.ensures.0 ∙ same,
      (broke_at _ _ _ c.from_residual-in_err-pass.ensures.1).0
          ∙ face_corner_err text c.args.reader.now.at c.in_ok-k.field-0 c.natural.new.self.at (sym c.in_ok-k.ensures.1) _ (sym p),
    )

pub returns-in_err-expect-clause-value : goal.returns-in_err-expect-clause-value
returns-in_err-expect-clause-value c =
    let text = c.args.reader.now.text.now in
    let same = c.in_ok-k.ensures.0 in
    let p = rw same at c.in_ok-pass.ensures.1 in
    let same₂ = c.in_ok-pass.ensures.0 ∙ same in
    let e = rw same₂ at c.in_err-expect.ensures.1 in (
      c.in_err-expect.ensures.0 ∙ same₂,
      (broke_at _ _ _ c.from_residual-in_err-expect.ensures.1).0
          ∙ face_end_err text c.args.reader.now.at c.in_ok-k.field-0 c.natural.new.self.at (sym c.in_ok-k.ensures.1) c.pass.new.reader.at (sym p) _ (sym e),
    )

pub returns-clause-value : goal.returns-clause-value
returns-clause-value c =
    let text = c.args.reader.now.text.now in
    let same = c.in_ok-k.ensures.0 in
    let p = rw same at c.in_ok-pass.ensures.1 in
    let same₂ = c.in_ok-pass.ensures.0 ∙ same in
    let e = rw same₂ at c.in_ok-expect.ensures.1 in (
      c.in_ok-expect.ensures.0 ∙ same₂,
      face_ok text c.args.reader.now.at c.in_ok-k.field-0 c.natural.new.self.at (sym c.in_ok-k.ensures.1) c.pass.new.reader.at (sym p) _ (sym e),
    )
