-- Each fault of an order at a vertex with its number and the value that it returns: that of the layer below.
use Rattle.refusal.specs.declared.Refusal.{Refusal}
use Rattle.workpiece.specs.Refusals as work
use Rattle.order.specs.Refusals as order
use Rattle.orders.specs.declared.fault.VertexFault.{VertexFault}
use Rattle.orders.specs.declared.fault.VertexFault.TheVariants.{Work, Value}

abbrev pub refusal_of : VertexFault → Refusal
refusal_of (Work f) = work.refusal_of f
refusal_of (Value f) = order.refusal_of f
