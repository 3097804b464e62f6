-- A turn adds one weight.
use Rattle.std.proofs.Common.{◌≡◌, ℕ, ◌+◌, ◌*◌, ◌<◌, ◌≤◌, length, get_or, ℤ, pos, ◌+ℤ◌, nat_abs, sym, ap, ◌∙◌, arith, w32, w64, SFits, to_z, of_z, rules}
use borrow.Author.Differences.{ints}
use Rattle.point.specs.Dealing.{handle_count}
use Rattle.point.proofs.RowSteps.{total_more}
use Rattle.point.proofs.row.kind.row_total.Goals as goal

step : (n : ℕ) (t v z : ℤ) → n < handle_count → nat_abs t ≤ n * 2147483648 → SFits w32 z → v ≡ z → (to_z w64 (of_z w64 (t +ℤ to_z w64 (of_z w64 v))) ≡ t +ℤ z) × (nat_abs (t +ℤ z) ≤ (n + 1) * 2147483648)
step n t v z l h f e = (omega (arith, ints), omega (arith, ints))

pub loop-weight-preserved : goal.loop-weight-preserved
loop-weight-preserved c =
    let ws = c.args.weights.now in
    let i = c.loop-weight.weight-index in
    let z = get_or ws i (pos 0) in
    let f : SFits w32 z = search rules in
    let l : i < length ws = omega arith in
    let e : c.from-total.result ≡ z = search rules in
    let s = step i _ c.from-total.result z (omega arith) c.loop-weight.invariant.1 f e in
    (s.0 ∙ ap (λ (v : ℤ). v +ℤ z) c.loop-weight.invariant.0 ∙ sym (total_more ws i l), rw s.0 s.1)
