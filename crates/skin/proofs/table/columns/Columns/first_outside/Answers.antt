use Rattle.std.proofs.Common.{◌≡◌, true, false, rules}
use Rattle.std.proofs.lemmas.Iterator.{first_from_Range}
use borrow.Author.Tests.{tests}
use Rattle.mesh.specs.Tables.{outside}
use Rattle.mesh.proofs.Smallest.{found}
use Rattle.skin.specs.Drawn.{drawn}
use Rattle.skin.proofs.table.columns.Columns.first_outside.Goals as goal

pub returns : goal.returns
returns c =
    let p = outside (drawn c.args.self.now) in
    found p c.args.self.now.n c.find.result
    (first_from_Range _ _ _ c.find.result (λ h. p h ≡ true) (λ h. p h ≡ false) c.find.ensures.ran (λ x q k. search (rules, tests)) (λ x q k. search (rules, tests)))
