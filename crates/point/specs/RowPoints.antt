-- Pull rows: when two are the same, and the laws of the kind.
use Rattle.std.specs.Prelude.{◌≡◌, ℕ, ◌<◌, ◌≤◌, List, map, length, ℤ, pos, ◌+ℤ◌, ◌*ℤ◌, ◌≤ℤ◌, Some, None, Option, ◌==◌, refl}
use Rattle.std.proofs.Common.{sym, ap, subst, ◌∙◌, arith, lit≤, ne_eqb, ⊎_elim}
use mathlib.Core.HLevel.{is_prop→PathP, Π_prop}
use Rattle.std.proofs.Math.Bridge.{le_prop}
use Rattle.std.proofs.Math.Nat.{ℕ_set}
use Rattle.std.proofs.Math.IntN.{ℤ_set}
use Rattle.std.proofs.lemmas.Bool.{cond-false, cases_lt}
use Rattle.std.proofs.lemmas.List.{get_or_past}
use Rattle.point.specs.declared.row.PullRow.{PullRow}
use Rattle.point.specs.declared.row.PullSum.{PullSum}
use Rattle.point.specs.declared.fault.PointFault.{PointFault}
use Rattle.point.specs.Range.{InRange, Summed}
use Rattle.point.specs.Points.{coordinate, total, totals, Near, KindLaws, mean_answer}
use Rattle.point.specs.Made.{row_fault}
use Rattle.point.specs.Checked.{no_fault}
use Rattle.point.specs.Dealing.{handle_count, row_whole, floor_of, gets, dealt, missing, Shares}
use Rattle.point.specs.Rows.{numbers_of, sums_of, first, fitted, fitted_long, row_by, row_at, mean_by}
use Rattle.point.specs.MadeLemmas.{range_none, total_none, row_fault_lem}
use Rattle.point.specs.Listed.{coordinates_are, totals_long, totals_total, totals_range, totals_between}
use Rattle.point.specs.Deals.{dealt_long, dealt_at, dealt_whole, dealt_shares, weight_near, weight_least, weight_most, weight_range}

pub row_same : (p q : PullRow) → p.weights ≡ q.weights → p ≡ q
row_same p q e j = record {
  weights = e j;
  long = is_prop→PathP (λ k. length (e k) ≡ handle_count) (λ k. ℕ_set _ _) p.long q.long j;
  ok = is_prop→PathP (λ k. (i : ℕ) → InRange (coordinate (e k) i)) (λ k. Π_prop (λ i. le_prop)) p.ok q.ok j;
  whole = is_prop→PathP (λ k. total (e k) ≡ row_whole) (λ k. ℤ_set _ _) p.whole q.whole j;
}

-- a list as long as a row is itself
pub fitted_is : (zs : List ℤ) → length zs ≡ handle_count → zs ≡ fitted zs
fitted_is zs l = coordinates_are zs handle_count l

-- the weights of a row make that row
pub row_at_lem : (p : PullRow) (zs : List ℤ) → p.weights ≡ zs → p ≡ row_at zs
row_at_lem p zs e = go (row_fault (fitted zs)) refl
  where
    same : p.weights ≡ fitted zs
    same = fitted_is p.weights p.long ∙ ap fitted e

    none : row_fault (fitted zs) ≡ None
    none = ap row_fault (sym same) ∙ row_fault_lem p.weights (range_none 0 p.weights p.ok) ∙ total_none (total p.weights) p.whole

    go : (o : Option PointFault) (f : row_fault (fitted zs) ≡ o) → p ≡ row_by (fitted zs) (fitted_long zs) o f
    go None f = row_same p (row_by (fitted zs) (fitted_long zs) None f) same
    go (Some e) f = no_fault e (sym f ∙ none)

-- weights with a fault make the row of all weight on the first handle
pub no_row : (zs : List ℤ) → length zs ≡ handle_count → (e : PointFault) → row_fault zs ≡ Some e → row_at zs ≡ first
no_row zs l e q = go (row_fault (fitted zs)) refl (ap row_fault (sym (fitted_is zs l)) ∙ q)
  where
    go : (o : Option PointFault) (f : row_fault (fitted zs) ≡ o) → o ≡ Some e → row_by (fitted zs) (fitted_long zs) o f ≡ first
    go None f r = no_fault e (sym r)
    go (Some e) f r = refl

-- ---- the mean
module _ (k : ℕ) (ts : List ℤ) (h : 0 < k) (l : length ts ≡ handle_count) (s : (i : ℕ) → Summed k (coordinate ts i)) (e : total ts ≡ pos k *ℤ row_whole) where
  abbrev pub ws : List ℤ
  ws = dealt k (missing k ts) ts

  pub ws_long : length ws ≡ handle_count
  ws_long = dealt_long k (missing k ts) ts ∙ l

  pub ws_in_range : (i : ℕ) → InRange (coordinate ws i)
  ws_in_range i =
      ⊎_elim
      (λ f. let d = dealt_at k (missing k ts) ts i f in subst InRange (sym d.1) (weight_range k h d.0 (coordinate ts i) (s i)))
      (λ f. subst InRange (sym (get_or_past ws i (pos 0) (rw (dealt_long k (missing k ts) ts) f))) (lit≤ tt))
      (cases_lt i (length ts))

  -- the row of the dealt weights
  abbrev dealt_row : PullRow
  dealt_row = record { weights = ws; long = ws_long; ok = ws_in_range; whole = dealt_whole k ts h e }

  pub mean_numbers : numbers_of (mean_by k ts) ≡ dealt k (missing k ts) ts
  mean_numbers = ap numbers_of (sym (row_at_lem dealt_row ws refl))

  pub mean_shares : Shares k ts (numbers_of (mean_by k ts))
  mean_shares = subst (Shares k ts) (sym mean_numbers) (dealt_shares k ts h e)

  -- a fact of each weight of the mean, whatever was missing when its turn came
  pub mean_each : (P : ℤ → Type 0) (i : ℕ) → i < handle_count → ((m : ℕ) → P (floor_of k (coordinate ts i) +ℤ pos (gets k m (coordinate ts i)))) → P (coordinate (numbers_of (mean_by k ts)) i)
  mean_each P i f w =
      let d = dealt_at k (missing k ts) ts i (rw l f) in
      subst P (sym (ap (λ (zs : List ℤ). coordinate zs i) mean_numbers ∙ d.1)) (w d.0)

pub mean_made : (s : PullSum) (p : PullRow) → 0 < s.tally.count → p.weights ≡ dealt s.tally.count (missing s.tally.count s.tally.totals) s.tally.totals → Some p ≡ mean_answer mean_by s.tally.count (sums_of s)
mean_made s p h e = ap Some (row_at_lem p _ e) ∙ sym (cond-false (s.tally.count == 0) None (Some (mean_by s.tally.count (sums_of s))) (ne_eqb s.tally.count 0 (λ z. omega arith)))

pub answer_shares : (s : PullSum) (p : PullRow) → 0 < s.tally.count → mean_answer mean_by s.tally.count (sums_of s) ≡ Some p → Shares s.tally.count (sums_of s) (numbers_of p)
answer_shares s p h e =
    let m : mean_by s.tally.count (sums_of s) ≡ p = cc (cond-false (s.tally.count == 0) None (Some (mean_by s.tally.count (sums_of s))) (ne_eqb s.tally.count 0 (λ z. omega arith)), e) in
    subst (λ (q : PullRow). Shares s.tally.count (sums_of s) (numbers_of q)) m (mean_shares s.tally.count s.tally.totals h s.tally.long s.tally.ok s.whole)

-- ---- the laws
within : (p : PullRow) (i : ℕ) → InRange (coordinate (numbers_of p) i)
within p = p.ok

module _ (ps : List PullRow) (h : 1 ≤ length ps) where
  abbrev ts : List ℤ
  ts = totals handle_count (map numbers_of ps)

  each : (P : ℤ → Type 0) (i : ℕ) → i < handle_count → ((m : ℕ) → P (floor_of (length ps) (coordinate ts i) +ℤ pos (gets (length ps) m (coordinate ts i)))) → P (coordinate (numbers_of (mean_by (length ps) ts)) i)
  each = mean_each (length ps) ts h (totals_long handle_count (map numbers_of ps)) (totals_range handle_count numbers_of within ps) (totals_total handle_count numbers_of row_whole (λ p. p.long) (λ p. p.whole) ps)

pub row_laws : KindLaws handle_count 2 numbers_of mean_by
row_laws = record {
  some = lit≤ tt;
  few = lit≤ tt;
  loose = lit≤ tt;
  sized = λ p. p.long;
  within = within;
  same = row_same;
  near = λ ps h f i l. each ps h (λ m. Near 2 (length ps) m (coordinate (ts ps h) i)) i l (λ m. weight_near (length ps) h m (coordinate (ts ps h) i));
  inside = λ ps h f i l lo hi b.
      let k = length ps in
      let t = coordinate (ts ps h) i in
      let bounds = totals_between handle_count numbers_of i l lo hi ps b in (
        each ps h (λ m. lo ≤ℤ m) i l (λ m. weight_least k h m t lo bounds.0),
        each ps h (λ m. m ≤ℤ hi) i l (λ m. weight_most k h m t hi bounds.1),
      );
}
