-- When numbers have no fault.
use Rattle.std.specs.Prelude.{◌≡◌, ℕ, suc, ◌+◌, true, List, [], ◌∷◌, ℤ, Some, None, int_le, unsigned_abs, refl}
use Rattle.std.proofs.Common.{sym, ap, ◌∙◌, arith, le-leb}
use borrow.Author.Differences.{ints, true_is_le}
use Rattle.std.proofs.lemmas.Bool.{and_from, cond-true}
use Rattle.point.specs.declared.fault.PointFault.TheVariants.{OutOfRange, RowTotal}
use Rattle.point.specs.Range.{coordinate_limit, InRange, in_range}
use Rattle.point.specs.Points.{coordinate, total}
use Rattle.point.specs.Dealing.{row_whole}
use Rattle.point.specs.Made.{range_fault, same_whole, total_fault, or_else, row_fault}

pub range_none : (n : ℕ) (zs : List ℤ) → ((i : ℕ) → InRange (coordinate zs i)) → range_fault n zs ≡ None
range_none n [] h = refl
range_none n (z ∷ zs) h = cond-true (in_range z) (range_fault (n + 1) zs) (Some (OutOfRange n)) (le-leb (unsigned_abs z) coordinate_limit (h 0)) ∙ range_none (n + 1) zs (λ i. h (suc i))

same_yes : (a b : ℤ) → a ≡ b → same_whole a b ≡ true
same_yes a b e = and_from (int_le a b) (int_le b a) (sym (true_is_le a b (omega (arith, ints)))) (sym (true_is_le b a (omega (arith, ints))))

pub total_none : (t : ℤ) → t ≡ row_whole → total_fault t ≡ None
total_none t e = cond-true (same_whole t row_whole) None (Some (RowTotal t)) (same_yes t row_whole e)

-- with every number in range, the total decides
pub row_fault_lem : (zs : List ℤ) → range_fault 0 zs ≡ None → row_fault zs ≡ total_fault (total zs)
row_fault_lem zs e = ap (λ o. or_else o (total_fault (total zs))) e
