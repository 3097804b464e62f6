-- What becomes of an order at a dart of a workpiece of solids.
use Rattle.std.specs.Prelude.{◌≡◌, ℕ, true, List, length, pos, Ok, Err, Result, slice_index_or}
use Rattle.skin.specs.declared.skin.Skin.{Ghosts}
use Rattle.point.specs.Solids.{numbers_of, meant_by}
use Rattle.point.specs.declared.solid.SolidPoint.{SolidPoint}
use Rattle.point.specs.declared.solid.SolidRecord.{SolidRecord}
use Rattle.point.specs.contracts.solid.kind.SolidPointKind.TheImpl.{ghosts}
use Rattle.order.specs.declared.Order.{Order}
use Rattle.order.specs.Rule.{TheOne}
use Rattle.order.specs.Orders.{Ordered}
use Rattle.workpiece.specs.declared.piece.Workpiece.{Workpiece}
use Rattle.workpiece.specs.Answers.{reach_answer}
use Rattle.workpiece.specs.Calls.{PlaceDone}
use Rattle.workpiece.specs.Law.{work}
use Rattle.workpiece.specs.Reckoning.{may_reach}
use Rattle.orders.specs.declared.fault.VertexFault.{VertexFault}
use Rattle.orders.specs.declared.fault.VertexFault.TheVariants.{Work, Value}

-- the point of a dart
abbrev pub point_of : List SolidRecord → ℕ → SolidPoint
point_of t dart = meant_by (slice_index_or t dart (record { x = pos 0; y = pos 0; z = pos 0 }))

-- An order at a dart, of a workpiece w with the table t, which then are w' and t'. The workpiece's faults come first, then the order's;
-- an accepted order is the place of the one point that it gives the vertex.
abbrev pub OrderDone : {S : Type 0} → Ghosts S → Order → ℕ → Workpiece S → List SolidRecord → Result (Unit {0}) VertexFault → Workpiece S → List SolidRecord → Type 0
OrderDone k o dart w t (Err (Work f)) w' t' = (reach_answer {X = Unit {0}} tt (work k w).carrier.n dart (length t) ≡ Err f) × (w' ≡ w) × (t' ≡ t)
OrderDone k o dart w t (Err (Value f)) w' t' =
    (may_reach dart (work k w).carrier.n (length t) ≡ true) × TheOne (Ordered o (point_of t dart)) (Err f) × (w' ≡ w) × (t' ≡ t)
OrderDone k o dart w t (Ok u) w' t' = (p : SolidPoint) × TheOne (Ordered o (point_of t dart)) (Ok p) × PlaceDone k ghosts dart (numbers_of p) w t (Ok tt) w' t'
