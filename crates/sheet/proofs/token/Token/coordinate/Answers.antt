use Rattle.std.proofs.Common.{drop, rules, sym, arith}
use Rattle.std.proofs.lemmas.Int.{ints}
use Rattle.std.proofs.lemmas.List.{take_rest}
use Rattle.sheet.specs.Number.{natural}
use Rattle.sheet.proofs.Numbers.{minus_read, within, negative_read}
use Rattle.sheet.proofs.token.Token.coordinate.Goals as goal

pub returns-in_default-2 : goal.returns-in_default-2
returns-in_default-2 c =
    let e = minus_read c.args.self.bytes.now (search rules) (search rules) in
    let t = take_rest c.args.self.bytes.now 1 in
    let r = rw t at c.in_ok-n.ensures in
    let u = within 0 16777216 c.args.self.place (natural (drop 1 c.args.self.bytes.now)) c.in_ok-n.n (sym r) in
    rw e (negative_read c.args.self.place c.in_ok-n.n (natural (drop 1 c.args.self.bytes.now)) _ (sym r) (omega arith) (omega (arith, ints, u.1)))
