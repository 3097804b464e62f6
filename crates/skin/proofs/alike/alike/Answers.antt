use Rattle.std.proofs.Common.{◌≡◌, Bool, true, false, arith, rules}
use Rattle.std.proofs.lemmas.Iterator.{YieldsList-from_range, cases_from_all}
use Rattle.std.proofs.lemmas.Bool.{false≢true}
use borrow.Author.Tests.{tests}
use Rattle.skin.specs.Skins.{mesh, Told}
use Rattle.skin.proofs.Alikes.{Untold, alike_from}
use Rattle.skin.proofs.alike.alike.Goals as goal

pub returns-then-n : goal.returns-then-n
returns-then-n g c =
    let a = mesh g.S.Skin c.args.skin.now in
    let b = mesh g.O.Skin c.args.other.now in
    let e : a.n ≡ b.n = search rules in
    alike_from a b c.all.result e
    (cases_from_all c.all.new.self _ c.all.result (Told a b) (Untold a b) c.all.ensures.ran (YieldsList-from_range 0 a.n a.n (search rules) (omega arith))
    (λ x q k. search (rules, tests)) (λ x q k t. let z : ◌≡◌ {A = Bool} false true = search (rules, tests) in absurd (false≢true z)))
