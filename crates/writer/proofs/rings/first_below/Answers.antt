use Rattle.std.proofs.Common.{ltb, sym, ◌∙◌, rules, tests}
use Rattle.std.proofs.lemmas.Iterator.Search.{find_from_yields_List}
use Rattle.std.proofs.lemmas.Iterator.Consumers.{YieldsList-from_first}
use Rattle.std.proofs.lemmas.Iterator.Adapters.{option_map_id}
use Rattle.mesh.specs.Mesh.{ring, turn}
use Rattle.skin.specs.Skins.{mesh}
use Rattle.writer.proofs.Numbering.{ring_of_is}
use Rattle.writer.proofs.rings.first_below.Goals as goal

pub returns : goal.returns
returns g c =
    let m = mesh g.S.Skin c.args.skin.now in
    let h = c.args.h in
    sym (option_map_id c.find.result)
    ∙ find_from_yields_List (λ d. ltb d h) c.find.new.self _ c.find.result c.find.ensures.ran
    (YieldsList-from_first (λ x. x) _ (ring (turn m) h) (c.orbit.ensures ∙ ring_of_is m.n (turn m) h c.requires))
    (λ x b q k. search (rules, tests))
