use Rattle.std.proofs.Common.{◌≡◌, ℕ, ◌+◌, ◌%◌, not, eqb, sym, ap, ◌∙◌, subst, ⊎_elim, arith}
use Rattle.std.proofs.lemmas.Bool.{eq-eqb, ne_eqb}
use Rattle.std.proofs.lemmas.Bool.Decides.{eqb_tells}
use Rattle.workpiece.specs.Carriers.{carried}
use Rattle.writer.specs.Outcome.{Writes}
use Rattle.writer.proofs.piece.write_sheet.Goals as goal

-- two numbers of which one is odd have an odd sum
odd_sum : (a b : ℕ) → not (eqb (a % 2) (b % 2)) ≡ eqb ((a + b) % 2) 1
odd_sum a b =
    ⊎_elim
    (λ t. ap not t.0 ∙ sym (ne_eqb ((a + b) % 2) 1 (λ e. omega (arith, t.1))))
    (λ t. ap not t.0 ∙ sym (eq-eqb ((a + b) % 2) 1 (omega (arith, t.1))))
    (eqb_tells (a % 2) (b % 2))

pub returns : goal.returns
returns g c =
    let w = c.args.piece.now in
    let flag = ap (λ x. not (eqb (x % 2) (c.averages.result % 2))) c.splits.ensures ∙ ap (λ x. not (eqb (w.carrier.ladder.count % 2) (x % 2))) c.averages.ensures ∙ odd_sum w.carrier.ladder.count w.averages in
    subst (λ b. Writes (carried g.S.Skin w.carrier) c.args.points.now b c.args.buf.now c.write_skin.new.buf c.write_skin.result) flag
    (subst (λ x. Writes (carried g.S.Skin x) c.args.points.now (not (eqb (c.splits.result % 2) (c.averages.result % 2))) c.args.buf.now c.write_skin.new.buf c.write_skin.result) c.carrier.ensures
    c.write_skin.ensures)
