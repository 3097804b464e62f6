-- A number below 0 is spelled by a minus and its size, any other by its size alone.
use Rattle.std.proofs.Common.{◌≡◌, ℕ, true, false, rules, ◌∷◌, ℤ, pos, negsuc, nat_abs, decimal, sym, ap, ◌∙◌, subst, arith, w32}
use Rattle.std.specs.Fmt.{signed_decimal}
use Rattle.std.proofs.lemmas.Int.{to_z-of_z}
use lib.Signed.{lt_z}
use Rattle.std.proofs.lemmas.Bool.{ltb-true}
use Rattle.writer.specs.Pages.{Grows}
use Rattle.writer.proofs.Pages.{grows_on}
use Rattle.writer.proofs.page.Page.signed.Goals as goal
use Rattle.writer.proofs.page.Page.signed.Goals.{then-z-lt0, else-z-lt0}

minus_spelled : (z y : ℤ) (n : ℕ) → y ≡ z → lt_z y (pos 0) ≡ true → n ≡ nat_abs y → signed_decimal z ≡ 45 ∷ decimal n
minus_spelled z (pos m) n e h q = let l = ltb-true m 0 h in absurd (omega arith)
minus_spelled z (negsuc m) n e h q = ap signed_decimal (sym e) ∙ ap (λ k. 45 ∷ decimal k) (sym q)

plain_spelled : (z y : ℤ) (n : ℕ) → y ≡ z → lt_z y (pos 0) ≡ false → n ≡ nat_abs y → signed_decimal z ≡ decimal n
plain_spelled z (pos m) n e h q = ap signed_decimal (sym e) ∙ ap decimal (sym q)
plain_spelled z (negsuc m) n e h q = search rules

pub returns : goal.returns
returns c =
    elim c.if-z-lt0.branch [
      | then-z-lt0 w ↦
          let e = minus_spelled c.args.z _ c.unsigned_abs.result (to_z-of_z w32 c.args.z c.ranges.z) w.if-z-lt0.true c.unsigned_abs.ensures.value in
          subst (λ t. Grows t c.args.self.now c.number.new.self) (sym e)
          (grows_on w.byte.ensures (subst (λ p. Grows (decimal c.unsigned_abs.result) p c.number.new.self) w.self-is c.number.ensures))
      | else-z-lt0 w ↦
          let e = plain_spelled c.args.z _ c.unsigned_abs.result (to_z-of_z w32 c.args.z c.ranges.z) w.if-z-lt0.false c.unsigned_abs.ensures.value in
          subst (λ t. Grows t c.args.self.now c.number.new.self) (sym e)
          (subst (λ p. Grows (decimal c.unsigned_abs.result) p c.number.new.self) w.self-is c.number.ensures)
    ]
