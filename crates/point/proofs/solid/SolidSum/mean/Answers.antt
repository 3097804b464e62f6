-- The mean of a sum that is not empty.
use Rattle.std.proofs.Common.{◌≡◌, ℕ, ◌<◌, List, ℤ, pos, sym, ap, ◌∙◌, subst, arith, w32, to_z, of_z, rules}
use Rattle.std.proofs.lemmas.List.{get_or-map}
use Rattle.point.specs.Range.{InRange}
use Rattle.point.specs.Points.{coordinate}
use Rattle.point.specs.Solids.{half_up}
use Rattle.point.specs.SolidPoints.{three_same, mean_made, answer_nearest}
use Rattle.point.specs.Rounding.{half_range}
use Rattle.point.proofs.Casts.{back32}
use Rattle.point.proofs.Columns.{found}
use Rattle.point.proofs.solid.SolidSum.mean.Goals as goal

pub returns : goal.returns
returns c =
    let s = c.args.self.now in
    let t = s.tally in
    let h = c.in_ok-columns.ensures in
    let e = found t.count t.totals c.in_ok-columns.columns h.1 half_up c.map.result (sym t.long) c.map.ensures.items (λ x r p q k. search rules) in
    let at : (i : ℕ) → i < 3 → to_z w32 (of_z w32 (coordinate c.map.result i)) ≡ half_up t.count (coordinate t.totals i) = λ i l.
    let v = ap (λ (zs : List ℤ). coordinate zs i) e ∙ get_or-map (half_up t.count) t.totals i (pos 0) (pos 0) (rw t.long l) in
    back32 (coordinate c.map.result i) (subst InRange (sym v) (half_range t.count h.0 (coordinate t.totals i) (t.ok i))) ∙ v
    in
    let value = mean_made s _ h.0 (three_same (at 0 (omega arith)) (at 1 (omega arith)) (at 2 (omega arith))) in
    record { value = value; nearest = λ p q. answer_nearest s p h.0 (sym value ∙ q) }
