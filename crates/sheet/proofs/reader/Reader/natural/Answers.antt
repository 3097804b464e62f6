use Rattle.std.proofs.Common.{Err, refl, ap, ◌∙◌}
use Rattle.sheet.proofs.Forms.{broke_at}
use Rattle.sheet.proofs.Steps.{natural_other}
use Rattle.sheet.proofs.reader.Reader.natural.Goals as goal

pub returns-in_err-token : goal.returns-in_err-token
returns-in_err-token c =
    let h = c.in_err-token.ensures in
    let o = natural_other c.args.low c.args.high c.args.self.now.text.now c.args.self.now.at h.1 in
    (refl, (broke_at _ _ _ c.from_residual.ensures.1).0 ∙ ap (λ e. Err e) h.0 ∙ o)
