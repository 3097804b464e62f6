-- What becomes of an order at a vertex.
use Rattle.std.specs.Prelude.{◌≡◌, ℕ, ◌<◌, List, [], ◌∷◌, length, ℤ, ◌+ℤ◌, ◌-ℤ◌, Ok, Err, Result, slice_index_or, Float}
use Rattle.std.specs.Float.{nan}
use Rattle.point.specs.Range.{InRange}
use Rattle.point.specs.declared.fault.PointFault.TheVariants.{OutOfRange, RowTotal}
use Rattle.point.specs.declared.solid.SolidPoint.{SolidPoint}
use Rattle.order.specs.declared.fault.ScaleFault.{ScaleFault}
use Rattle.order.specs.declared.fault.OrderFault.{OrderFault}
use Rattle.order.specs.declared.fault.OrderFault.TheVariants.{Value, Point}
use Rattle.order.specs.declared.Millimetres.{Millimetres}
use Rattle.order.specs.declared.Order.{Order}
use Rattle.order.specs.declared.Order.TheVariants.{Put, Raise}
use Rattle.order.specs.Scale.{Measured}

-- x millimetres are some whole number of units
abbrev pub Whole : Float → Type 0
Whole x = (u : ℤ) × Measured x (Ok u)

-- a value of x millimetres for the coordinate i
abbrev pub MeasuredAt : ℕ → Float → Result ℤ OrderFault → Type 0
MeasuredAt i x (Ok u) = Measured x (Ok u)
MeasuredAt i x (Err (Value j f)) = (j ≡ i) × Measured x (Err f)
MeasuredAt i x (Err (Point f)) = ⊥

abbrev pub values : Millimetres → List Float
values m = m.x ∷ (m.y ∷ (m.z ∷ []))

-- the first of some values that stands for no units is that at i, for the reason f
abbrev pub FirstFault : List Float → ℕ → ScaleFault → Type 0
FirstFault xs i f = (i < length xs) × Measured (slice_index_or xs i nan) (Err f) × ((j : ℕ) → j < i → Whole (slice_index_or xs j nan))

-- what becomes of a vertex that is to go to a point in millimetres
abbrev pub PutTo : Millimetres → Result SolidPoint OrderFault → Type 0
PutTo m (Ok p) = Measured m.x (Ok p.x) × Measured m.y (Ok p.y) × Measured m.z (Ok p.z)
PutTo m (Err (Value i f)) = FirstFault (values m) i f
PutTo m (Err (Point f)) = ⊥

-- what becomes of a vertex at the point `old` that is to rise by x millimetres: z is the coordinate 2
abbrev pub RaisedBy : Float → SolidPoint → Result SolidPoint OrderFault → Type 0
RaisedBy x old (Ok p) = (p.x ≡ old.x) × (p.y ≡ old.y) × Measured x (Ok (p.z -ℤ old.z))
RaisedBy x old (Err (Value i f)) = (i ≡ 2) × Measured x (Err f)
RaisedBy x old (Err (Point (OutOfRange i))) = (i ≡ 2) × ((u : ℤ) × Measured x (Ok u) × (InRange (old.z +ℤ u) → ⊥))
RaisedBy x old (Err (Point (RowTotal t))) = ⊥

-- what becomes of an order at a vertex that stands at the point `old`
abbrev pub Ordered : Order → SolidPoint → Result SolidPoint OrderFault → Type 0
Ordered (Put m) old r = PutTo m r
Ordered (Raise x) old r = RaisedBy x old r
