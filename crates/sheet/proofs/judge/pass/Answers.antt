use Rattle.std.proofs.Common.{sym, ◌∙◌, arith}
use Rattle.sheet.proofs.Forms.{broke_at, turn_err, turn_ok}
use Rattle.sheet.proofs.judge.pass.Goals as goal

pub returns-in_err-read : goal.returns-in_err-read
returns-in_err-read g c =
    let e = rw c.loop-i.invariant.0 at c.in_err-read.ensures.1 in (
      c.in_err-read.ensures.0 ∙ c.loop-i.invariant.0,
      (broke_at _ _ _ c.from_residual.ensures.1).1
          ∙ turn_err g.T.Item.form c.args.reader.now.text.now c.args.n c.args.reader.now.at c.loop-i._i c.loop-i.reader.at c.loop-i.invariant.1 _ (omega arith) (sym e),
    )

pub loop-i-preserved : goal.loop-i-preserved
loop-i-preserved g c =
    let e = rw c.loop-i.invariant.0 at c.in_ok-read.ensures.1 in (
      c.in_ok-read.ensures.0 ∙ c.loop-i.invariant.0,
      turn_ok g.T.Item.form c.args.reader.now.text.now c.args.n c.args.reader.now.at c.loop-i._i c.loop-i.reader.at c.loop-i.invariant.1 _ _ (omega arith) (sym e),
    )
