use Rattle.std.proofs.Common.{length, subst, sym, ap, arith, rules}
use Rattle.mesh.specs.Mesh.{turn}
use Rattle.skin.specs.Skins.{mesh}
use Rattle.sheet.specs.Sheet.{point_text, face_text}
use Rattle.writer.specs.Points.{point_at}
use Rattle.writer.specs.Listing.{corners_from}
use Rattle.writer.specs.Pages.{HasRoom}
use Rattle.writer.proofs.Writes.{first_room}
use Rattle.writer.proofs.Pages.{grows_on, room_next, grown}
use Rattle.writer.proofs.ByLine.{each, parts, parts_are}
use Rattle.writer.proofs.listing.Listing.put_sheet.Given as given
use Rattle.writer.proofs.listing.Listing.put_sheet.Goals as goal
use Rattle.writer.proofs.listing.Listing.put_sheet.Goals.{After-new-page}

-- there is room for the parts, one after another
room : (g : given.Over) (c : After-new-page g) →
    let m = mesh g.S.Skin c.args.self.now.skin.now in
    HasRoom (parts c.args.counts.vertices (each point_text (point_at c.args.self.now.points.now) (turn m) m.n) c.args.counts.faces (each face_text (corners_from m c.args.self.now.backward) m.next m.n)) c.new-page.result
room g c =
    let s = c.args.self.now in
    subst (λ w. HasRoom w c.new-page.result)
    (sym (parts_are (mesh g.S.Skin s.skin.now) s.points.now s.backward _ _ c.requires.v_counted c.requires.f_counted))
    (record { fits = omega (arith, ap length c.new-page.ensures.bytes, c.new-page.ensures.at, c.requires.room.fits) })

pub heading-requires : goal.heading-requires
heading-requires g c = first_room _ (room g (goal.at.heading-requires g c).After-new-page)

pub put_points-requires : goal.put_points-requires
put_points-requires g c = first_room _ (room_next c.heading.ensures (room g (goal.at.put_points-requires g c).After-new-page))

pub heading-requires-2 : goal.heading-requires-2
heading-requires-2 g c = first_room _ (room_next c.put_points.ensures (room_next c.heading.ensures (room g (goal.at.heading-requires-2 g c).After-new-page)))

pub put_faces-requires : goal.put_faces-requires
put_faces-requires g c =
    first_room _ (room_next c.heading-2.ensures (room_next c.put_points.ensures (room_next c.heading.ensures (room g (goal.at.put_faces-requires g c).After-new-page))))

pub word-requires : goal.word-requires
word-requires g c =
    room_next c.put_faces.ensures (room_next c.heading-2.ensures (room_next c.put_points.ensures (room_next c.heading.ensures (room g (goal.at.word-requires g c).After-new-page))))

pub returns : goal.returns
returns g c =
    let s = c.args.self.now in
    let all = grows_on c.heading.ensures (grows_on c.put_points.ensures (grows_on c.heading-2.ensures (grows_on c.put_faces.ensures c.word.ensures))) in
    let lent = all.lent in
    grown (search rules) all c.new-page.ensures.at c.new-page.ensures.bytes
    (parts_are (mesh g.S.Skin s.skin.now) s.points.now s.backward _ _ c.requires.v_counted c.requires.f_counted)
