-- A turn adds one number to its total.
use Rattle.std.proofs.Common.{ℕ, ◌<◌, length, ℤ, pos, ◌+ℤ◌, ap, ◌∙◌, le_refl, arith, length-set, w64, to_z, of_z}
use Rattle.std.proofs.lemmas.List.FromFn.{fill_by_all}
use Rattle.point.specs.Points.{coordinate}
use Rattle.point.proofs.Casts.{added}
use Rattle.point.proofs.RowSteps.{written_below, written_above}
use Rattle.point.proofs.tally.Tally.add.Goals as goal

pub loop-i-preserved : goal.loop-i-preserved
loop-i-preserved g c =
    let s = c.args.self.now in
    let ns = c.args.numbers.now in
    let ts = c.loop-i.total-items in
    let i = c.loop-i.i in
    let l : i < length ts = omega arith in
    let here = c.loop-i.invariant.2 i (le_refl i) in
    let v = ap (λ (z : ℤ). to_z w64 (of_z w64 (to_z w64 (of_z w64 z) +ℤ to_z w64 (of_z w64 c.from.result)))) here ∙ added s.count (coordinate s.totals i) _ (coordinate ns i) s.few (s.ok i) (c.requires i) c.from.ensures in (
      length-set ts i _ ∙ c.loop-i.invariant.0,
      written_below (λ k. coordinate s.totals k +ℤ coordinate ns k) ts i _ l v c.loop-i.invariant.1,
      written_above ts s.totals i _ c.loop-i.invariant.2,
    )

pub returns-clause-totals : goal.returns-clause-totals
returns-clause-totals g c =
    let f : ℕ → ℤ = λ k. coordinate c.args.self.now.totals k +ℤ coordinate c.args.numbers.now k in
    fill_by_all f c.loop-i.total-items g.row.N (pos 0) c.loop-i.invariant.0 (λ k l. c.loop-i.invariant.1 k (omega arith))
