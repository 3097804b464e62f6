-- A digit is its own numeral, and any other number ends in its last digit.
use Rattle.std.proofs.Common.{sym, subst, arith}
use Rattle.std.proofs.lemmas.Fmt.{decimal_step, decimal_digit}
use Rattle.writer.specs.Pages.{HasRoom, Grows}
use Rattle.writer.proofs.Pages.{grows_on, room_next}
use Rattle.writer.proofs.Writes.{first_room}
use Rattle.writer.proofs.page.Page.+number.Goals as goal

pub byte-requires : goal.byte-requires
byte-requires t c = subst (λ w. HasRoom w c.args.self.now) (decimal_digit c.args.n (omega arith)) c.requires

pub number-requires : goal.number-requires
number-requires t c =
    (omega arith, first_room _ (subst (λ w. HasRoom w c.args.self.now) (decimal_step c.args.n (omega arith) (omega arith)) c.requires))

pub byte-requires-else-n-lt10 : goal.byte-requires-else-n-lt10
byte-requires-else-n-lt10 t c =
    room_next c.number.ensures (subst (λ w. HasRoom w c.args.self.now) (decimal_step c.args.n (omega arith) (omega arith)) c.requires)

pub returns-then-n-lt10 : goal.returns-then-n-lt10
returns-then-n-lt10 t c = subst (λ w. Grows w c.args.self.now c.byte.new.self) (sym (decimal_digit c.args.n (omega arith))) c.byte.ensures

pub returns-else-n-lt10 : goal.returns-else-n-lt10
returns-else-n-lt10 t c = subst (λ w. Grows w c.args.self.now c.byte-else-n-lt10.new.self) (sym (decimal_step c.args.n (omega arith) (omega arith))) (grows_on c.number.ensures c.byte-else-n-lt10.ensures)
