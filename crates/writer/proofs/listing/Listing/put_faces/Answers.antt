use Rattle.mesh.specs.Count.{leaders}
use Rattle.skin.specs.Skins.{mesh}
use Rattle.sheet.specs.Sheet.{face_text}
use Rattle.writer.specs.Listing.{corners_from}
use Rattle.writer.proofs.Pages.{items_put}
use Rattle.writer.proofs.Turns.{Came, leaders_left, came}
use Rattle.writer.proofs.Limits.{leader_below}
use Rattle.writer.proofs.ByLine.{each_room}
use Rattle.writer.proofs.listing.Listing.put_faces.Given as given
use Rattle.writer.proofs.listing.Listing.put_faces.Goals as goal
use Rattle.writer.proofs.listing.Listing.put_faces.Goals.{In-Some}

face : (g : given.Over) (c : In-Some g) →
    let m = mesh g.S.Skin c.args.self.now.skin.now in
    Came (leaders m.next m.n) c.loop-h.yielded c.in-Some.h
face g c =
    came (leaders_left g.S.Skin) c.into_iter-h-iterator.ensures.into_iter_gives c.leaders-h-items.ensures
    c.loop-h.yielded c.loop-h.h-iterator c.next.new.self c.loop-h.yielded_by c.next.ensures.steps c.in-Some.is

pub put_face-requires-clause-dart : goal.put_face-requires-clause-dart
put_face-requires-clause-dart g c =
    let m = mesh g.S.Skin c.args.self.now.skin.now in
    leader_below m.next m.n _ _ (face g (goal.at.put_face-requires-clause-dart g c).In-Some)

pub put_face-requires-clause-room : goal.put_face-requires-clause-room
put_face-requires-clause-room g c =
    let m = mesh g.S.Skin c.args.self.now.skin.now in
    each_room face_text (corners_from m c.args.self.now.backward) m.next m.n _ _ (face g (goal.at.put_face-requires-clause-room g c).In-Some) c.requires c.loop-h.invariant

pub loop-h-preserved : goal.loop-h-preserved
loop-h-preserved g c =
    let m = mesh g.S.Skin c.args.self.now.skin.now in
    items_put (λ h. face_text (corners_from m c.args.self.now.backward h)) c.loop-h.yielded c.in-Some.h c.loop-h.invariant c.put_face.ensures
