use Rattle.std.proofs.Common.{rules}
use Rattle.std.proofs.lemmas.List.Sorted.{IsPartitionPoint-from_clause}
use Rattle.closing.specs.Sorting.{edge, edge_lt}
use Rattle.closing.specs.Whole.{whole}
use Rattle.closing.proofs.EdgeOrder.{partitioned, parted}
use Rattle.closing.proofs.edges.Edges.position.Goals as goal

pub returns : goal.returns
returns c =
    let e = c.args.self.now in
    let s = whole e.sheet in
    let a = c.args.a in
    let b = c.args.b in
    let p = c.partition_point.ensures in
    parted s e.next.now e.order.now e.laid e.ordered a b _ p.bound
    (IsPartitionPoint-from_clause (λ h. edge_lt (edge s.corners e.next.now h) (a, b)) e.order.now _ p.partitioned
    (partitioned s e.next.now e.order.now e.laid e.ordered a b) (λ x r f k. search rules))
