-- A sum with one row more keeps its total, and so does a full one.
use Rattle.std.proofs.Common.{◌≡◌, ℕ, ◌+◌, Bool, true, false, cond, List, length, ℤ, pos, ◌*ℤ◌, sym, ap, ◌∙◌}
use Rattle.std.specs.Prelude.{is_ok}
use Rattle.point.specs.Points.{total, one_more}
use Rattle.point.specs.Dealing.{handle_count, row_whole}
use Rattle.point.proofs.RowSteps.{sum_whole}
use Rattle.point.proofs.row.kind.PullPointKind.add.Goals as goal

grown : (b : Bool) (n n' : ℕ) (ts ts' ws : List ℤ) → length ts ≡ handle_count → length ws ≡ handle_count → total ts ≡ pos n *ℤ row_whole → total ws ≡ row_whole
    → n' ≡ cond b (n + 1) n → ts' ≡ cond b (one_more handle_count ts ws) ts → total ts' ≡ pos n' *ℤ row_whole
grown true n n' ts ts' ws l m e f p q = ap total q ∙ sum_whole n ts ws l m e f ∙ ap (λ k. pos k *ℤ row_whole) (sym p)
grown false n n' ts ts' ws l m e f p q = ap total q ∙ e ∙ ap (λ k. pos k *ℤ row_whole) (sym p)

pub invariant_of-sum : goal.invariant_of-sum
invariant_of-sum c =
    let s = c.args.sum.now in
    let p = c.args.point.now in
    record { whole = grown (is_ok c.add.result) s.tally.count _ s.tally.totals _ p.weights s.tally.long p.long s.whole p.whole c.add.ensures.count c.add.ensures.totals }
