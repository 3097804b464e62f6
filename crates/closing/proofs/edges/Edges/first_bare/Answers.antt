use Rattle.std.proofs.Common.{refl, arith, rules}
use Rattle.std.proofs.lemmas.Iterator.{YieldsList-from_range}
use Rattle.std.proofs.lemmas.Iterator.Search.{find_from_yields_List}
use Rattle.closing.specs.Sheet.{bare}
use Rattle.closing.specs.Whole.{whole}
use Rattle.closing.proofs.Scans.{found}
use Rattle.closing.proofs.edges.Edges.first_bare.Goals as goal

pub returns : goal.returns
returns c =
    let s = whole c.args.self.now.sheet in
    let n = s.points in
    found (bare s) n _ (find_from_yields_List (bare s) _ _ c.find.result c.find.ensures.ran (YieldsList-from_range 0 n n refl (omega arith)) (λ x b q k. search rules))
