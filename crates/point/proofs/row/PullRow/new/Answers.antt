-- A row is made where no number is out of range and the total is the fixed one.
use Rattle.std.proofs.Common.{◌≡◌, length, sym, ap, ◌∙◌, arith, rules}
use Rattle.std.specs.Result.{result_err}
use borrow.Author.Differences.{ints}
use Rattle.point.specs.Dealing.{handle_count, row_whole}
use Rattle.point.specs.Checked.{all_in_range}
use Rattle.point.proofs.row.PullRow.new.Goals as goal

pub invariant_of-result : goal.invariant_of-result
invariant_of-result c =
    let ws = c.args.weights in
    let l : length ws ≡ handle_count = search rules in
    let t : c.row_total-total.result ≡ row_whole = omega (arith, ints) in
    record { long = l; ok = all_in_range 0 ws (sym c.check_range.ensures ∙ ap result_err c.in_ok-check_range.was); whole = sym c.row_total-total.ensures ∙ t }
