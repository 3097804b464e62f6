-- Each fault of an order with its number and the value that it returns.
use Rattle.refusal.specs.declared.Refusal.{Refusal}
use Rattle.refusal.specs.Refusals.{with}
use Rattle.point.specs.Refusals as point
use Rattle.order.specs.declared.fault.ScaleFault.TheVariants.{NotNumber, Beyond, OffGrid}
use Rattle.order.specs.declared.fault.OrderFault.{OrderFault}
use Rattle.order.specs.declared.fault.OrderFault.TheVariants.{Value, Point}

abbrev pub refusal_of : OrderFault → Refusal
refusal_of (Value i NotNumber) = with 18 i
refusal_of (Value i Beyond) = with 3 i
refusal_of (Value i OffGrid) = with 18 i
refusal_of (Point f) = point.refusal_of f
