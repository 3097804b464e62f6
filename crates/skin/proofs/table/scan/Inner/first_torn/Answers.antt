use Rattle.std.proofs.Common.{◌≡◌, true, false, rules}
use Rattle.std.proofs.lemmas.Iterator.{first_from_Range}
use borrow.Author.Tests.{tests}
use Rattle.mesh.specs.Tables.{torn}
use Rattle.mesh.proofs.Smallest.{found}
use Rattle.skin.specs.Drawn.{drawn}
use Rattle.skin.proofs.table.scan.Inner.first_torn.Goals as goal

pub returns : goal.returns
returns c =
    let p = torn (drawn c.args.self.now.columns) in
    found p c.args.self.now.columns.n c.find.result
    (first_from_Range _ _ _ c.find.result (λ h. p h ≡ true) (λ h. p h ≡ false) c.find.ensures.ran (λ x q k. search (rules, tests)) (λ x q k. search (rules, tests)))
