-- the corners of the darts that came so far
use Rattle.std.specs.List.{flat_map}
use Rattle.skin.specs.Skins.{mesh}
use Rattle.writer.specs.Listing.{vertex_of}
use Rattle.writer.specs.Pages.{Grows}
use Rattle.writer.proofs.ByLine.{corner_text}
use Rattle.writer.proofs.listing.Listing.put_face.Given as goal

abbrev pub invariant-loop-d : goal.invariant-loop-d
invariant-loop-d g l = Grows (flat_map (λ d. corner_text (vertex_of (mesh g.S.Skin l.self.skin.now) d)) l.yielded) l.initial.page l.page
