-- What numbers without a fault keep: the definitions make points of them.
use Rattle.std.specs.Prelude.{◌≡◌, ℕ, zero, suc, ◌+◌, Bool, true, false, cond, List, [], ◌∷◌, ℤ, Some, None, Option, int_le, unsigned_abs, refl}
use Rattle.std.proofs.Common.{arith, lit≤, leb-true}
use borrow.Author.Differences.{ints, le-true}
use Rattle.std.proofs.lemmas.Bool.{and_parts}
use Rattle.point.specs.declared.fault.PointFault.{PointFault}
use Rattle.point.specs.declared.fault.PointFault.TheVariants.{OutOfRange, RowTotal}
use Rattle.point.specs.Range.{coordinate_limit, InRange, in_range}
use Rattle.point.specs.Points.{coordinate, total}
use Rattle.point.specs.Dealing.{row_whole}
use Rattle.point.specs.Made.{range_fault, same_whole, total_fault, or_else, row_fault}

pub no_fault : {X : Type 0} (e : PointFault) → Some e ≡ None → X
no_fault e q = let z : ◌≡◌ {A = ℕ} 0 1 = cc in absurd (omega arith)

pub all_in_range : (n : ℕ) (zs : List ℤ) → range_fault n zs ≡ None → (i : ℕ) → InRange (coordinate zs i)
all_in_range n [] e i = lit≤ tt
all_in_range n (z ∷ zs) e i = go (in_range z) refl e (all_in_range (n + 1) zs) i
  where
    go : (b : Bool) → in_range z ≡ b → cond b (range_fault (n + 1) zs) (Some (OutOfRange n)) ≡ None → (range_fault (n + 1) zs ≡ None → (i : ℕ) → InRange (coordinate zs i)) → (i : ℕ) → InRange (coordinate (z ∷ zs) i)
    go true r q rest zero = leb-true (unsigned_abs z) coordinate_limit r
    go true r q rest (suc i) = rest q i
    go false r q rest i = no_fault (OutOfRange n) q

pub same_whole_lem : (a b : ℤ) → same_whole a b ≡ true → a ≡ b
same_whole_lem a b e =
    let p = and_parts (int_le a b) (int_le b a) e in
    omega (arith, ints, le-true a b p.0, le-true b a p.1)

pub row_in_range : (zs : List ℤ) → row_fault zs ≡ None → (i : ℕ) → InRange (coordinate zs i)
row_in_range zs e i = go (range_fault 0 zs) refl e i
  where
    go : (o : Option PointFault) → range_fault 0 zs ≡ o → or_else o (total_fault (total zs)) ≡ None → (i : ℕ) → InRange (coordinate zs i)
    go None r q i = all_in_range 0 zs r i
    go (Some f) r q i = no_fault f q

pub row_total : (zs : List ℤ) → row_fault zs ≡ None → total zs ≡ row_whole
row_total zs e = go (range_fault 0 zs) e
  where
    test : (b : Bool) → same_whole (total zs) row_whole ≡ b → cond b None (Some (RowTotal (total zs))) ≡ None → total zs ≡ row_whole
    test true r q = same_whole_lem (total zs) row_whole r
    test false r q = no_fault (RowTotal (total zs)) q

    go : (o : Option PointFault) → or_else o (total_fault (total zs)) ≡ None → total zs ≡ row_whole
    go None q = test (same_whole (total zs) row_whole) refl q
    go (Some f) q = no_fault f q
