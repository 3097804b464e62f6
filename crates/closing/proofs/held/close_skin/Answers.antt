use Rattle.std.proofs.Common.{rules}
use Rattle.closing.specs.Sheet.{sheet}
use Rattle.closing.proofs.Holding.{taken}
use Rattle.closing.proofs.held.close_skin.Goals as goal

pub returns : goal.returns
returns c =
    let s = sheet c.args.points c.args.lengths.now c.args.corners.now in
    taken s c.args.next.now c.args.prev.now c.args.twin.now c.close.new.next c.close.new.prev c.close.new.twin c.in_ok-n.n
    c.in_ok-n.ensures c.unwrap.result (search rules)
