-- The rules of orders leave one outcome each, and what the units of a value make of it.
use Rattle.std.proofs.Common.{◌≡◌, ℕ, zero, suc, ◌<◌, Bool, true, false, cond, ◌⊎◌, List, get_or, ℤ, ◌+ℤ◌, ◌-ℤ◌, nat_abs, Some, None, Ok, Err, Result, sym, refl, ap, ◌∙◌, subst, inl, inr, arith, le-leb, leb-true}
use lib.Ieee.{Float, nan}
use borrow.Author.Differences.{ints}
use Rattle.point.specs.Range.{coordinate_limit, InRange, in_range}
use Rattle.point.specs.Made.{range_fault}
use Rattle.point.specs.Solids.{three, numbers_of}
use Rattle.point.specs.declared.fault.PointFault.{PointFault}
use Rattle.point.specs.declared.fault.PointFault.TheVariants.{OutOfRange, RowTotal}
use Rattle.point.specs.declared.solid.SolidPoint.{SolidPoint}
use Rattle.point.specs.SolidPoints.{solid_same}
use Rattle.order.specs.declared.fault.ScaleFault.{ScaleFault}
use Rattle.order.specs.declared.fault.OrderFault.{OrderFault}
use Rattle.order.specs.declared.fault.OrderFault.TheVariants.{Value, Point}
use Rattle.order.specs.declared.Millimetres.{Millimetres}
use Rattle.order.specs.Rule.{TheOne}
use Rattle.order.specs.Scale.{Measured}
use Rattle.order.specs.Orders.{Whole, MeasuredAt, values, FirstFault, PutTo, RaisedBy}
use Rattle.order.proofs.Back.{few, measured_one}

-- ---- a value has units or a fault, and only one
same_units : (x : Float) (u v : ℤ) → Measured x (Ok u) → Measured x (Ok v) → u ≡ v
same_units x u v g h = let e = measured_one x (Ok u) (Ok v) g h in cc

same_fault : (x : Float) (f g : ScaleFault) → Measured x (Err f) → Measured x (Err g) → f ≡ g
same_fault x f g p q = let e = measured_one x (Err f) (Err g) p q in cc

not_both : (x : Float) (f : ScaleFault) → Whole x → Measured x (Err f) → ⊥
not_both x f w h = let e = measured_one x (Ok w.0) (Err f) w.1 h in let z : ◌≡◌ {A = ℕ} 0 1 = cc in omega arith

pub units_few : (x : Float) (u : ℤ) → Measured x (Ok u) → InRange u
units_few x u h = few x u h.0 h.1

-- ---- the first fault of some values
either_way : (i j : ℕ) → (i < j) ⊎ ((j < i) ⊎ (i ≡ j))
either_way i j = search arith

first_one : (xs : List Float) (i j : ℕ) (f g : ScaleFault) → FirstFault xs i f → FirstFault xs j g → Value i f ≡ Value j g
first_one xs i j f g p q =
    elim (either_way i j) [
      | inl h ↦ absurd (not_both (get_or xs i nan) f (q.2 i h) p.1)
      | inr (inl h) ↦ absurd (not_both (get_or xs j nan) g (p.2 j h) q.1)
      | inr (inr e) ↦ let k : f ≡ g = same_fault (get_or xs i nan) f g p.1 (subst (λ (k : ℕ). Measured (get_or xs k nan) (Err g)) (sym e) q.1) in cc
    ]

-- ---- a point of three values
all_whole : (m : Millimetres) (p : SolidPoint) → PutTo m (Ok p) → (i : ℕ) → i < 3 → Whole (get_or (values m) i nan)
all_whole m p a zero h = (p.x, a.0)
all_whole m p a (suc zero) h = (p.y, a.1)
all_whole m p a (suc (suc zero)) h = (p.z, a.2)
all_whole m p a (suc (suc (suc i))) h = absurd (omega arith)

pub put_one : (m : Millimetres) (q r : Result SolidPoint OrderFault) → PutTo m q → PutTo m r → q ≡ r
put_one m (Ok p) (Ok q) a b =
    ap Ok (solid_same p q (same_units m.x p.x q.x a.0 b.0) (same_units m.y p.y q.y a.1 b.1) (same_units m.z p.z q.z a.2 b.2))
put_one m (Ok p) (Err (Value i f)) a b = absurd (not_both (get_or (values m) i nan) f (all_whole m p a i b.0) b.1)
put_one m (Ok p) (Err (Point f)) a b = absurd b
put_one m (Err (Value i f)) (Ok p) a b = absurd (not_both (get_or (values m) i nan) f (all_whole m p b i a.0) a.1)
put_one m (Err (Value i f)) (Err (Value j g)) a b = ap Err (first_one (values m) i j f g a b)
put_one m (Err (Value i f)) (Err (Point g)) a b = absurd b
put_one m (Err (Point f)) r a b = absurd a

pub put : (m : Millimetres) (r : Result SolidPoint OrderFault) → PutTo m r → TheOne (PutTo m) r
put m r a = record { holds = a; only = λ q b. put_one m q r b a }

-- a point of the units x, y and z
pub put_ok : (m : Millimetres) (x y z : ℤ) (p : SolidPoint) → Measured m.x (Ok x) → Measured m.y (Ok y) → Measured m.z (Ok z) → numbers_of p ≡ three x y z
    → TheOne (PutTo m) (Ok p)
put_ok m x y z p a b c e =
    let ex : p.x ≡ x = cc in
    let ey : p.y ≡ y = cc in
    let ez : p.z ≡ z = cc in
    put m (Ok p) (rw ex a, rw ey b, rw ez c)

-- the value at i stands for no units, and those before it do
pub put_err : (m : Millimetres) (i : ℕ) (e : OrderFault) → i < 3 → MeasuredAt i (get_or (values m) i nan) (Err e) → ((j : ℕ) → j < i → Whole (get_or (values m) j nan))
    → TheOne (PutTo m) (Err e)
put_err m i (Value j f) l h w = subst (λ (k : ℕ). TheOne (PutTo m) (Err (Value k f))) (sym h.0) (put m (Err (Value i f)) (l, h.1, w))
put_err m i (Point f) l h w = absurd h

pub before_y : (m : Millimetres) (x : ℤ) → Measured m.x (Ok x) → (j : ℕ) → j < 1 → Whole (get_or (values m) j nan)
before_y m x a zero h = (x, a)
before_y m x a (suc j) h = absurd (omega arith)

pub before_z : (m : Millimetres) (x y : ℤ) → Measured m.x (Ok x) → Measured m.y (Ok y) → (j : ℕ) → j < 2 → Whole (get_or (values m) j nan)
before_z m x y a b zero h = (x, a)
before_z m x y a b (suc zero) h = (y, b)
before_z m x y a b (suc (suc j)) h = absurd (omega arith)

-- ---- units in range
one_out : (x y z : ℤ) → InRange x → InRange y → range_fault 0 (three x y z) ≡ cond (in_range z) None (Some (OutOfRange 2))
one_out x y z a b =
    ap (λ (t : Bool). cond t (cond (in_range y) (cond (in_range z) None (Some (OutOfRange 2))) (Some (OutOfRange 1))) (Some (OutOfRange 0))) (le-leb (nat_abs x) coordinate_limit a)
    ∙ ap (λ (t : Bool). cond t (cond (in_range z) None (Some (OutOfRange 2))) (Some (OutOfRange 1))) (le-leb (nat_abs y) coordinate_limit b)

pub no_fault : (x y z : ℤ) (f : PointFault) → InRange x → InRange y → InRange z → range_fault 0 (three x y z) ≡ Some f → ⊥
no_fault x y z f a b c e =
    let k : None ≡ Some f = sym (one_out x y z a b ∙ ap (λ (t : Bool). cond t None (Some (OutOfRange 2))) (le-leb (nat_abs z) coordinate_limit c)) ∙ e in
    let w : ◌≡◌ {A = ℕ} 0 1 = cc in
    omega arith

pub out_above : (x y z : ℤ) (f : PointFault) → InRange x → InRange y → range_fault 0 (three x y z) ≡ Some f → (f ≡ OutOfRange 2) × (InRange z → ⊥)
out_above x y z f a b e = go (in_range z) (leb-true (nat_abs z) coordinate_limit) (le-leb (nat_abs z) coordinate_limit) (sym (one_out x y z a b) ∙ e)
  where
    go : (t : Bool) → (t ≡ true → InRange z) → (InRange z → t ≡ true) → cond t None (Some (OutOfRange 2)) ≡ Some f → (f ≡ OutOfRange 2) × (InRange z → ⊥)
    go true p q h = let w : ◌≡◌ {A = ℕ} 0 1 = cc in absurd (omega arith)
    go false p q h = (cc, λ i. let k = q i in let w : ◌≡◌ {A = ℕ} 0 1 = cc in omega arith)

-- ---- a point raised
gone_up : (a b u : ℤ) → a -ℤ b ≡ u → a ≡ b +ℤ u
gone_up a b u e = omega (arith, ints)

raised_same : (x : Float) (old p q : SolidPoint) → RaisedBy x old (Ok p) → RaisedBy x old (Ok q) → p ≡ q
raised_same x old p q a b =
    solid_same p q (a.0 ∙ sym b.0) (a.1 ∙ sym b.1)
    (gone_up p.z old.z (q.z -ℤ old.z) (same_units x (p.z -ℤ old.z) (q.z -ℤ old.z) a.2 b.2) ∙ sym (gone_up q.z old.z (q.z -ℤ old.z) refl))

too_far : (x : Float) (old p : SolidPoint) (u : ℤ) → RaisedBy x old (Ok p) → Measured x (Ok u) → (InRange (old.z +ℤ u) → ⊥) → ⊥
too_far x old p u a h out =
    out (subst InRange (gone_up p.z old.z u (same_units x (p.z -ℤ old.z) u a.2 h)) p.ok.2)

pub raised_one : (x : Float) (old : SolidPoint) (q r : Result SolidPoint OrderFault) → RaisedBy x old q → RaisedBy x old r → q ≡ r
raised_one x old (Ok p) (Ok q) a b = ap Ok (raised_same x old p q a b)
raised_one x old (Ok p) (Err (Value i f)) a b = absurd (not_both x f (p.z -ℤ old.z, a.2) b.1)
raised_one x old (Ok p) (Err (Point (OutOfRange i))) a b = absurd (too_far x old p b.1.0 a b.1.1 b.1.2)
raised_one x old (Ok p) (Err (Point (RowTotal t))) a b = absurd b
raised_one x old (Err (Value i f)) (Ok p) a b = absurd (not_both x f (p.z -ℤ old.z, b.2) a.1)
raised_one x old (Err (Value i f)) (Err (Value j g)) a b = let e = same_fault x f g a.1 b.1 in cc
raised_one x old (Err (Value i f)) (Err (Point (OutOfRange j))) a b = absurd (not_both x f (b.1.0, b.1.1) a.1)
raised_one x old (Err (Value i f)) (Err (Point (RowTotal t))) a b = absurd b
raised_one x old (Err (Point (OutOfRange i))) (Ok p) a b = absurd (too_far x old p a.1.0 b a.1.1 a.1.2)
raised_one x old (Err (Point (OutOfRange i))) (Err (Value j g)) a b = absurd (not_both x g (a.1.0, a.1.1) b.1)
raised_one x old (Err (Point (OutOfRange i))) (Err (Point (OutOfRange j))) a b = cc
raised_one x old (Err (Point (OutOfRange i))) (Err (Point (RowTotal t))) a b = absurd b
raised_one x old (Err (Point (RowTotal t))) r a b = absurd a

pub raised : (x : Float) (old : SolidPoint) (r : Result SolidPoint OrderFault) → RaisedBy x old r → TheOne (RaisedBy x old) r
raised x old r a = record { holds = a; only = λ q b. raised_one x old q r b a }

-- z raised by u units
pub raised_ok : (x : Float) (old p : SolidPoint) (u : ℤ) → Measured x (Ok u) → numbers_of p ≡ three old.x old.y (old.z +ℤ u) → TheOne (RaisedBy x old) (Ok p)
raised_ok x old p u h e =
    let ex : p.x ≡ old.x = cc in
    let ey : p.y ≡ old.y = cc in
    let ez : p.z ≡ old.z +ℤ u = cc in
    let d : p.z -ℤ old.z ≡ u = omega (arith, ints) in
    raised x old (Ok p) (ex, ey, rw d h)

pub raised_out : (x : Float) (old : SolidPoint) (u : ℤ) (f : PointFault) → Measured x (Ok u) → range_fault 0 (three old.x old.y (old.z +ℤ u)) ≡ Some f
    → TheOne (RaisedBy x old) (Err (Point f))
raised_out x old u f h e =
    let k = out_above old.x old.y (old.z +ℤ u) f old.ok.0 old.ok.1 e in
    rw k.0 (raised x old (Err (Point (OutOfRange 2))) (refl, (u, h, k.1)))
