use Rattle.std.proofs.Common.{refl, arith, rules}
use Rattle.std.proofs.lemmas.Iterator.{YieldsList-from_range}
use Rattle.std.proofs.lemmas.Iterator.Search.{find_from_yields_List}
use Rattle.closing.specs.Sheet.{crowded}
use Rattle.closing.specs.Whole.{whole}
use Rattle.closing.proofs.Scans.{found}
use Rattle.closing.proofs.vertices.Rings.first_crowded.Goals as goal

pub returns : goal.returns
returns c =
    let s = whole c.args.self.now.edges.sheet in
    let n = s.points in
    found (crowded s) n _ (find_from_yields_List (crowded s) _ _ c.find.result c.find.ensures.ran (YieldsList-from_range 0 n n refl (omega arith)) (λ x b q k. search rules))
