use Rattle.std.proofs.Common.{sym, ◌∙◌, rules}
use Rattle.sheet.proofs.Forms.{never}
use Rattle.intake.proofs.Readings.{few, answers, holds}
use Rattle.intake.proofs.survey.closed.Goals as goal

pub overflow_cast-named : goal.overflow_cast-named
overflow_cast-named c =
    let b = few c.args.text.now c.args.sizes _ _ _ c.requires.sizes c.read_sheet.ensures.read c.requires.points c.requires.lengths c.requires.corners in
    search rules

pub returns-in_err-read_sheet : goal.returns-in_err-read_sheet
returns-in_err-read_sheet c =
    absurd (never _ _ (sym c.in_err-read_sheet.was
    ∙ answers c.args.text.now c.args.sizes _ _ _ c.requires.sizes c.read_sheet.ensures.read c.requires.points c.requires.lengths c.requires.corners))

pub returns : goal.returns
returns c =
    holds c.args.text.now c.args.sizes _ _ _ c.requires.sizes c.read_sheet.ensures.read c.requires.points c.requires.lengths c.requires.corners
    c.args.next.now c.args.prev.now c.args.twin.now c.requires.next c.requires.prev c.requires.twin _ c.close_skin.ensures
