-- The mean of a sum that is not empty: each turn deals to one weight.
use Rattle.std.proofs.Common.{◌≡◌, ℕ, ◌<◌, ◌≤◌, T, List, map, length, ℤ, pos, ◌+ℤ◌, ◌-ℤ◌, nat_abs, sym, ap, ◌∙◌, subst, le_refl, arith, length-set, w32, w64, Fits, to_z, of_z, rules}
use lib.Signed.{non_neg}
use borrow.Author.Differences.{ints}
use Rattle.std.proofs.lemmas.List.{get_or-map}
use Rattle.point.specs.declared.row.PullSum.{PullSum}
use Rattle.point.specs.Range.{InRange}
use Rattle.point.specs.Points.{coordinate, total}
use Rattle.point.specs.Dealing.{handle_count, row_whole, floor_of, gets, dealt, missing}
use Rattle.point.specs.Deals.{missing_is, missing_few, dealt_whole, floor_range}
use Rattle.point.specs.RowPoints.{ws_long, ws_in_range, mean_made, answer_shares}
use Rattle.point.proofs.Casts.{raised}
use Rattle.point.proofs.Columns.{column_at, found}
use Rattle.point.proofs.RowSteps.{deal_more, deal_all, written_above}
use Rattle.point.proofs.Shares.{shares_alone}
use Rattle.point.proofs.row.PullSum.mean.Goals as goal

-- the units that the floors leave: few, and none less than nothing
short : (s : PullSum) (t : ℤ) (floors : List ℤ) → 0 < s.tally.count → floors ≡ map (floor_of s.tally.count) s.tally.totals → t ≡ total floors → (t +ℤ pos (missing s.tally.count s.tally.totals) ≡ row_whole) × (missing s.tally.count s.tally.totals ≤ handle_count)
short s t floors h f e = (
  ap (λ (z : ℤ). z +ℤ pos (missing s.tally.count s.tally.totals)) (e ∙ ap total f) ∙ (missing_is s.tally.count s.tally.totals h s.whole).0,
  subst (λ (n : ℕ). missing s.tally.count s.tally.totals ≤ n) s.tally.long (missing_few s.tally.count s.tally.totals h s.whole),
)

-- the difference in the code is that number
units : (w t : ℤ) (m : ℕ) → w ≡ row_whole → t +ℤ pos m ≡ row_whole → m ≤ handle_count → to_z w64 (of_z w64 (to_z w64 (of_z w64 w) -ℤ to_z w64 (of_z w64 t))) ≡ pos m
units w t m f e l = omega (arith, ints)

-- the weight at i is still its floor, and in range
floor_at : (k i : ℕ) (ws ts : List ℤ) → i < length ts → coordinate ws i ≡ coordinate (map (floor_of k) ts) i → coordinate ws i ≡ floor_of k (coordinate ts i)
floor_at k i ws ts l e = e ∙ get_or-map (floor_of k) ts i (pos 0) (pos 0) l

left_over : (c : goal.After-row_total) → (c.row_total.result +ℤ pos (missing c.args.self.now.tally.count c.args.self.now.tally.totals) ≡ row_whole) × (missing c.args.self.now.tally.count c.args.self.now.tally.totals ≤ handle_count)
left_over c =
    let s = c.args.self.now in
    let h = c.in_ok-columns.ensures in
    let e = found s.tally.count s.tally.totals c.in_ok-columns.columns h.1 floor_of c.map-weights.result (sym s.tally.long) c.map-weights.ensures.items (λ x r p q k. search rules) in
    short s c.row_total.result c.map-weights.result h.0 e c.row_total.ensures

pub overflow_sub-left : goal.overflow_sub-left
overflow_sub-left c = let k = left_over c in omega (arith, ints, k.0, k.1, c.from.ensures)

pub overflow_cast-left : goal.overflow_cast-left
overflow_cast-left c =
    let k = left_over c in
    let u = sym (units c.from.result c.row_total.result _ c.from.ensures k.0 k.1) in
    (subst (λ (z : ℤ). T (non_neg z)) u tt, subst (λ (z : ℤ). Fits w32 (nat_abs z)) u (record { fits = omega (arith, k.1) }))

pub loop-i-init : goal.loop-i-init
loop-i-init c =
    let s = c.args.self.now in
    let h = c.in_ok-columns.ensures in
    let e = found s.tally.count s.tally.totals c.in_ok-columns.columns h.1 floor_of c.map-weights.result (sym s.tally.long) c.map-weights.ensures.items (λ x r p q k. search rules) in
    let k = short s c.row_total.result c.map-weights.result h.0 e c.row_total.ensures in (
      c.map-weights.ensures.items.long,
      ap (λ (z : ℤ). dealt s.tally.count (nat_abs z) s.tally.totals) (units c.from.result c.row_total.result (missing s.tally.count s.tally.totals) c.from.ensures k.0 k.1),
      λ i l. ap (λ (zs : List ℤ). coordinate zs i) e,
    )

pub overflow_add-weight : goal.overflow_add-weight
overflow_add-weight c =
    let t = c.args.self.now.tally in
    let i = c.loop-i.i in
    let h = c.in_ok-columns.ensures in
    let q = floor_at t.count i c.loop-i.weight-items t.totals (omega arith) (c.loop-i.invariant.2 i (le_refl i)) in
    let r : InRange (coordinate c.loop-i.weight-items i) = subst InRange (sym q) (floor_range t.count (coordinate t.totals i) h.0 (t.ok i)) in
    omega (arith, ints, c.extra-unit.ensures.few.0)

pub loop-i-preserved : goal.loop-i-preserved
loop-i-preserved c =
    let t = c.args.self.now.tally in
    let ts = t.totals in
    let ws = c.loop-i.weight-items in
    let i = c.loop-i.i in
    let k = t.count in
    let g = c.extra-unit.result in
    let h = c.in_ok-columns.ensures in
    let l : i < length ts = omega arith in
    let n : i < length ws = omega arith in
    let q = floor_at k i ws ts l (c.loop-i.invariant.2 i (le_refl i)) in
    let r : InRange (coordinate ws i) = subst InRange (sym q) (floor_range k (coordinate ts i) h.0 (t.ok i)) in
    let eg : g ≡ gets k c.loop-i.left (coordinate ts i) = c.extra-unit.ensures.value ∙ ap (λ (p : ℕ × ℤ). gets p.0 c.loop-i.left p.1) (column_at k ts c.in_ok-columns.columns h.1 i _ l) in
    let ev = raised (coordinate ws i) g r c.extra-unit.ensures.few.0 ∙ ap (λ (z : ℤ). z +ℤ pos g) q in (
      length-set ws i _ ∙ c.loop-i.invariant.0,
      deal_more k c.loop-i.left (missing k ts) i g ts ws _ l n eg ev c.loop-i.invariant.1,
      written_above ws (map (floor_of k) ts) i _ c.loop-i.invariant.2,
    )

pub invariant_of-result : goal.invariant_of-result
invariant_of-result c =
    let s = c.args.self.now in
    let t = s.tally in
    let h = c.in_ok-columns.ensures in
    let e = deal_all t.count c.loop-i.left (missing t.count t.totals) c.loop-i.i t.totals c.loop-i.weight-items (omega arith) (omega arith) c.loop-i.invariant.1 in
    record {
      long = ap length e ∙ ws_long t.count t.totals h.0 t.long t.ok s.whole;
      ok = subst (λ (ws : List ℤ). (i : ℕ) → InRange (coordinate ws i)) (sym e) (ws_in_range t.count t.totals h.0 t.long t.ok s.whole);
      whole = ap total e ∙ dealt_whole t.count t.totals h.0 s.whole;
    }

pub returns : goal.returns
returns c =
    let s = c.args.self.now in
    let t = s.tally in
    let h = c.in_ok-columns.ensures in
    let e = deal_all t.count c.loop-i.left (missing t.count t.totals) c.loop-i.i t.totals c.loop-i.weight-items (omega arith) (omega arith) c.loop-i.invariant.1 in
    let value = mean_made s _ h.0 e in
    record {
      value = value;
      shares = λ p q. answer_shares s p h.0 (sym value ∙ q);
      only = λ p ws q l w. shares_alone t.count t.totals ws p.weights (l ∙ sym t.long) (p.long ∙ sym t.long) w (answer_shares s p h.0 (sym value ∙ q));
    }
