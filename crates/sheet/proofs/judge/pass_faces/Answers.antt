use Rattle.std.proofs.Common.{length, sym, refl, ◌∙◌, arith}
use Rattle.sheet.specs.Sheet.{face_line, corner_count}
use Rattle.sheet.proofs.Forms.{broke_at, counted_err, counted_more}
use Rattle.sheet.proofs.Sheets.{count_more}
use Rattle.sheet.proofs.judge.pass_faces.Goals as goal

pub returns-in_err-corners : goal.returns-in_err-corners
returns-in_err-corners c =
    let e = rw c.loop-i.invariant.0 at c.in_err-corners.ensures.value.1 in (
      c.in_err-corners.ensures.value.0 ∙ c.loop-i.invariant.0,
      (broke_at _ _ _ c.from_residual.ensures.1).0
          ∙ counted_err face_line length corner_count refl count_more c.args.reader.now.text.now c.args.n c.args.reader.now.at c.loop-i._i c.loop-i.reader.at c.loop-i.corners c.loop-i.invariant.1 _ (omega arith) (sym e),
    )

pub loop-i-preserved : goal.loop-i-preserved
loop-i-preserved c =
    let e = rw c.loop-i.invariant.0 at c.in_ok-corners.ensures.value.1 in (
      c.in_ok-corners.ensures.value.0 ∙ c.loop-i.invariant.0,
      counted_more face_line length corner_count refl count_more c.args.reader.now.text.now c.args.n c.args.reader.now.at c.loop-i._i c.loop-i.reader.at c.loop-i.corners c.loop-i.invariant.1
          _ _ (omega arith) (sym e),
      omega (arith, c.in_ok-corners.ensures.bound),
    )
