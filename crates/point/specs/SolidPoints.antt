-- Points of a solid: when two are the same, and the laws of the kind.
use Rattle.std.specs.Prelude.{◌≡◌, ℕ, zero, suc, ◌<◌, List, map, length, ℤ, ◌≤ℤ◌, Some, None, Option, ◌==◌, refl}
use Rattle.std.proofs.Common.{sym, ap, subst, ◌∙◌, arith, lit≤, ne_eqb}
use mathlib.Core.HLevel.{is_prop→PathP}
use Rattle.std.proofs.Math.Bridge.{le_prop}
use Rattle.std.proofs.lemmas.Bool.{cond-false}
use Rattle.point.specs.declared.solid.SolidPoint.{SolidPoint}
use Rattle.point.specs.declared.solid.SolidSum.{SolidSum}
use Rattle.point.specs.declared.fault.PointFault.{PointFault}
use Rattle.point.specs.Range.{InRange, Summed}
use Rattle.point.specs.Points.{coordinate, totals, KindLaws, mean_answer}
use Rattle.point.specs.Made.{range_fault}
use Rattle.point.specs.Checked.{no_fault}
use Rattle.point.specs.Solids.{three, numbers_of, sums_of, origin, point_by, point_at, half_up, mean_by, Nearest, NearestEach}
use Rattle.point.specs.MadeLemmas.{range_none}
use Rattle.point.specs.Listed.{totals_range, totals_between}
use Rattle.point.specs.Rounding.{half_nearest, half_least, half_most, half_range}

pub solid_same : (p q : SolidPoint) → p.x ≡ q.x → p.y ≡ q.y → p.z ≡ q.z → p ≡ q
solid_same p q a b c j = record {
  x = a j;
  y = b j;
  z = c j;
  ok = (
    is_prop→PathP (λ k. InRange (a k)) (λ k. le_prop) p.ok.0 q.ok.0 j,
    is_prop→PathP (λ k. InRange (b k)) (λ k. le_prop) p.ok.1 q.ok.1 j,
    is_prop→PathP (λ k. InRange (c k)) (λ k. le_prop) p.ok.2 q.ok.2 j,
  );
}

pub within : (p : SolidPoint) (i : ℕ) → InRange (coordinate (numbers_of p) i)
within p zero = p.ok.0
within p (suc zero) = p.ok.1
within p (suc (suc zero)) = p.ok.2
within p (suc (suc (suc i))) = lit≤ tt

-- the numbers of a point make that point
pub point_at_lem : {x y z : ℤ} (p : SolidPoint) → numbers_of p ≡ three x y z → p ≡ point_at x y z
point_at_lem {x} {y} {z} p e = go (range_fault 0 (three x y z)) refl
  where
    none : range_fault 0 (three x y z) ≡ None
    none = range_none 0 (three x y z) (subst (λ (zs : List ℤ). (i : ℕ) → InRange (coordinate zs i)) e (within p))

    at : (i : ℕ) → coordinate (numbers_of p) i ≡ coordinate (three x y z) i
    at i = ap (λ (zs : List ℤ). coordinate zs i) e

    go : (o : Option PointFault) (f : range_fault 0 (three x y z) ≡ o) → p ≡ point_by x y z o f
    go None f = solid_same p (point_by x y z None f) (at 0) (at 1) (at 2)
    go (Some e) f = no_fault e (sym f ∙ none)

-- numbers with a fault make the origin
pub no_point : (x y z : ℤ) (e : PointFault) → range_fault 0 (three x y z) ≡ Some e → point_at x y z ≡ origin
no_point x y z e q = go (range_fault 0 (three x y z)) refl q
  where
    go : (o : Option PointFault) (f : range_fault 0 (three x y z) ≡ o) → o ≡ Some e → point_by x y z o f ≡ origin
    go None f r = no_fault e (sym r)
    go (Some e) f r = refl

pub three_same : {x y z u v w : ℤ} → x ≡ u → y ≡ v → z ≡ w → three x y z ≡ three u v w
three_same p q r j = three (p j) (q j) (r j)

-- ---- the mean
module _ (k : ℕ) (ts : List ℤ) (h : 0 < k) (s : (i : ℕ) → Summed k (coordinate ts i)) where
  abbrev at : ℕ → ℤ
  at i = half_up k (coordinate ts i)

  abbrev made : SolidPoint
  made = record { x = at 0; y = at 1; z = at 2; ok = (half_range k h (coordinate ts 0) (s 0), half_range k h (coordinate ts 1) (s 1), half_range k h (coordinate ts 2) (s 2)) }

  pub mean_at : (i : ℕ) → i < 3 → coordinate (numbers_of (mean_by k ts)) i ≡ half_up k (coordinate ts i)
  mean_at i l = sym (ap (λ p. coordinate (numbers_of p) i) (point_at_lem made refl)) ∙ each i l
    where
      each : (i : ℕ) → i < 3 → coordinate (numbers_of made) i ≡ at i
      each zero l = refl
      each (suc zero) l = refl
      each (suc (suc zero)) l = refl
      each (suc (suc (suc i))) l = absurd (omega arith)

  pub mean_nearest : NearestEach k ts (mean_by k ts)
  mean_nearest i l = subst (Nearest k (coordinate ts i)) (sym (mean_at i l)) (half_nearest k h (coordinate ts i))

pub mean_made : (s : SolidSum) (p : SolidPoint) → 0 < s.tally.count → numbers_of p ≡ three (half_up s.tally.count (coordinate (sums_of s) 0)) (half_up s.tally.count (coordinate (sums_of s) 1)) (half_up s.tally.count (coordinate (sums_of s) 2)) → Some p ≡ mean_answer mean_by s.tally.count (sums_of s)
mean_made s p h e = ap Some (point_at_lem p e) ∙ sym (cond-false (s.tally.count == 0) None (Some (mean_by s.tally.count (sums_of s))) (ne_eqb s.tally.count 0 (λ z. omega arith)))

pub answer_nearest : (s : SolidSum) (p : SolidPoint) → 0 < s.tally.count → mean_answer mean_by s.tally.count (sums_of s) ≡ Some p → NearestEach s.tally.count (sums_of s) p
answer_nearest s p h e =
    let m : mean_by s.tally.count (sums_of s) ≡ p = cc (cond-false (s.tally.count == 0) None (Some (mean_by s.tally.count (sums_of s))) (ne_eqb s.tally.count 0 (λ z. omega arith)), e) in
    subst (NearestEach s.tally.count (sums_of s)) m (mean_nearest s.tally.count (sums_of s) h s.tally.ok)

-- ---- the laws
pub solid_laws : KindLaws 3 1 numbers_of mean_by
solid_laws = record {
  some = lit≤ tt;
  few = lit≤ tt;
  loose = lit≤ tt;
  sized = λ p. refl;
  within = within;
  same = λ p q e. solid_same p q (ap (λ (zs : List ℤ). coordinate zs 0) e) (ap (λ (zs : List ℤ). coordinate zs 1) e) (ap (λ (zs : List ℤ). coordinate zs 2) e);
  near = λ ps h f i l. (mean_nearest (length ps) (totals 3 (map numbers_of ps)) h (totals_range 3 numbers_of within ps) i l).near;
  inside = λ ps h f i l lo hi b.
      let k = length ps in
      let ts = totals 3 (map numbers_of ps) in
      let t = coordinate ts i in
      let e = sym (mean_at k ts h (totals_range 3 numbers_of within ps) i l) in
      let bounds = totals_between 3 numbers_of i l lo hi ps b in
      (subst (λ (m : ℤ). lo ≤ℤ m) e (half_least k h t lo bounds.0), subst (λ (m : ℤ). m ≤ℤ hi) e (half_most k h t hi bounds.1));
}
