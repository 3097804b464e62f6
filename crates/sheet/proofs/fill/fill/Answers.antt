use Rattle.std.proofs.Common.{length, sym, ◌∙◌, arith}
use Rattle.sheet.proofs.Forms.{broke_at, turn_err, turn_ok, turns_done}
use Rattle.sheet.proofs.Fillings.{fill_more, fill_never, fill_done}
use Rattle.sheet.proofs.fill.fill.Goals as goal

pub returns-in_err-place : goal.returns-in_err-place
returns-in_err-place g c =
    let text = c.args.reader.now.text.now in
    let at = c.args.reader.now.at in
    let n = length c.args.table.now in
    let e = rw c.loop-place.invariant.0 at c.in_err-place.ensures.1 in (
      (
        c.in_err-place.ensures.0 ∙ c.loop-place.invariant.0,
        (broke_at _ _ _ c.from_residual.ensures.1).1
            ∙ turn_err g.T.Item.form text n at c.loop-place.place-index c.loop-place.reader.at c.loop-place.invariant.1 _ (omega arith) (sym e),
      ),
      λ ps q j. absurd (fill_never g.T.Item.form text at n c.loop-place.place-index c.loop-place.reader.at c.args.table.now c.loop-place.table c.loop-place.invariant.2 _ (omega arith) (sym e) ps q j),
    )

pub loop-place-preserved : goal.loop-place-preserved
loop-place-preserved g c =
    let text = c.args.reader.now.text.now in
    let at = c.args.reader.now.at in
    let n = length c.args.table.now in
    let e = rw c.loop-place.invariant.0 at c.in_ok-place.ensures.1 in (
      c.in_ok-place.ensures.0 ∙ c.loop-place.invariant.0,
      turn_ok g.T.Item.form text n at c.loop-place.place-index c.loop-place.reader.at c.loop-place.invariant.1 _ _ (omega arith) (sym e),
      fill_more g.T.Item.form text at n c.loop-place.place-index c.loop-place.reader.at c.args.table.now c.loop-place.table c.loop-place.invariant.2 _ _ (omega arith) (omega arith) (sym e),
    )

pub returns : goal.returns
returns g c =
    let text = c.args.reader.now.text.now in
    let at = c.args.reader.now.at in
    let n = length c.args.table.now in (
      (
        c.loop-place.invariant.0,
        turns_done g.T.Item.form text n at c.loop-place.place-index c.loop-place.reader.at c.loop-place.invariant.1 (omega arith),
      ),
      fill_done g.T.Item.form text at n c.loop-place.place-index c.loop-place.reader.at c.args.table.now c.loop-place.table c.loop-place.invariant.2 (omega arith) (omega arith) (omega arith),
    )
