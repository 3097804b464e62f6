-- the numbers of the darts below h, and how many vertices they have
use Rattle.std.proofs.Common.{◌≡◌, map, vec_items, vec_len}
use Rattle.std.specs.List.{range_with_len}
use Rattle.mesh.specs.Mesh.{turn}
use Rattle.mesh.specs.Count.{rings}
use Rattle.skin.specs.Skins.{mesh}
use Rattle.writer.specs.Listing.{vertex_of}
use Rattle.writer.proofs.rings.vertex_numbers.Given as goal

abbrev pub invariant-loop-h : goal.invariant-loop-h
invariant-loop-h g l =
    (vec_items l.numbers ≡ map (vertex_of (mesh g.S.Skin l.skin)) (range_with_len 0 l.h))
    × (vec_len l.numbers ≡ l.h)
    × (l.found ≡ rings (turn (mesh g.S.Skin l.skin)) l.h)
