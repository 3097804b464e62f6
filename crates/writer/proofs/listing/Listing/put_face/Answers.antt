use Rattle.std.proofs.Common.{◌≡◌, ◌<◌, ◌++◌, length, get_or, decimal, sym, ap, ◌∙◌, subst, inl, arith}
use Rattle.std.specs.List.{flat_map}
use Rattle.std.proofs.lemmas.List.{get_or_default}
use Rattle.std.proofs.lemmas.Iterator.Consumers.{YieldsList-from_first, count_from_yields_List}
use Rattle.mesh.specs.Mesh.{ring}
use Rattle.mesh.proofs.Rings.{ring_at, times_keeps}
use Rattle.skin.specs.Skins.{mesh}
use Rattle.sheet.specs.Form.{line_end}
use Rattle.sheet.specs.Sheet.{face_text}
use Rattle.writer.specs.Listing.{vertex_of, way, corners_from}
use Rattle.writer.specs.Pages.{HasRoom, Grows}
use Rattle.writer.proofs.Writes.{first_room}
use Rattle.writer.proofs.Pages.{grows_on, room_next, items_put, items_room}
use Rattle.writer.proofs.Turns.{Came, darts_left, came, ended}
use Rattle.writer.proofs.ByLine.{corner_text, face_spelled, number_at}
use Rattle.writer.proofs.Numbering.{way_rounds, ring_of_is}
use Rattle.writer.proofs.listing.Listing.put_face.Given as given
use Rattle.writer.proofs.listing.Listing.put_face.Goals as goal
use Rattle.writer.proofs.listing.Listing.put_face.Goals.{After-count, In-Some, After-index, In-None}

pub count-requires-clause-fits : goal.count-requires-clause-fits
count-requires-clause-fits g c =
    let m = mesh g.S.Skin c.args.self.now.skin.now in
    let f = way m c.args.self.now.backward in
    let all = c.corners.ensures ∙ ring_of_is m.n f c.args.h c.requires.dart in
    inl (omega (arith, ap length all, (way_rounds m (g.S.Skin.lawful c.args.self.now.skin.now) c.args.self.now.backward).short c.args.h c.requires.dart))

-- the line, with the number that was counted
text : (g : given.Over) (c : After-count g) →
    let m = mesh g.S.Skin c.args.self.now.skin.now in
    face_text (corners_from m c.args.self.now.backward c.args.h)
    ≡ decimal c.count.result ++ (flat_map (λ d. corner_text (vertex_of m d)) (ring (way m c.args.self.now.backward) c.args.h) ++ line_end)
text g c =
    let m = mesh g.S.Skin c.args.self.now.skin.now in
    let f = way m c.args.self.now.backward in
    let k : c.count.result ≡ length (ring f c.args.h) =
    count_from_yields_List _ c.count.result c.count.ensures.ran (YieldsList-from_first (λ x. x) _ (ring f c.args.h) (c.corners.ensures ∙ ring_of_is m.n f c.args.h c.requires.dart)) in
    face_spelled m c.args.self.now.backward c.args.h
    ∙ ap (λ x. decimal x ++ (flat_map (λ d. corner_text (vertex_of m d)) (ring f c.args.h) ++ line_end)) (sym k)

room : (g : given.Over) (c : After-count g) →
    let m = mesh g.S.Skin c.args.self.now.skin.now in
    HasRoom (decimal c.count.result ++ (flat_map (λ d. corner_text (vertex_of m d)) (ring (way m c.args.self.now.backward) c.args.h) ++ line_end)) c.args.page.now
room g c = subst (λ w. HasRoom w c.args.page.now) (text g c) c.requires.room

pub number-requires : goal.number-requires
number-requires g c = first_room _ (room g c)

-- the dart that comes
dart : (g : given.Over) (c : In-Some g) →
    Came (ring (way (mesh g.S.Skin c.args.self.now.skin.now) c.args.self.now.backward) c.args.h) c.loop-d.yielded c.in-Some.d
dart g c =
    let m = mesh g.S.Skin c.args.self.now.skin.now in
    came (darts_left g.S.Skin) c.into_iter-d-iterator.ensures.into_iter_gives (c.corners-d-items.ensures ∙ ring_of_is m.n (way m c.args.self.now.backward) c.args.h c.requires.dart)
    c.loop-d.yielded c.loop-d.d-iterator c.next.new.self c.loop-d.yielded_by c.next.ensures.steps c.in-Some.is

below : (g : given.Over) (c : In-Some g) → c.in-Some.d < g.S.Skin.n c.args.self.now.skin.now
below g c =
    let m = mesh g.S.Skin c.args.self.now.skin.now in
    let f = way m c.args.self.now.backward in
    let q = dart g c in
    let k = length c.loop-d.yielded in
    let e : get_or (ring f c.args.h) k 0 ≡ c.in-Some.d = get_or_default (ring f c.args.h) k 0 c.in-Some.d q.inside ∙ sym q.here in
    subst (λ x. x < m.n) (sym (ring_at f c.args.h k q.inside) ∙ e)
    (times_keeps m.n f (way_rounds m (g.S.Skin.lawful c.args.self.now.skin.now) c.args.self.now.backward).below k c.args.h c.requires.dart)

-- room for the corner that comes
corner : (g : given.Over) (c : In-Some g) →
    let m = mesh g.S.Skin c.args.self.now.skin.now in
    HasRoom (flat_map (λ d. corner_text (vertex_of m d)) (ring (way m c.args.self.now.backward) c.args.h) ++ line_end) c.number.new.self →
    HasRoom (corner_text (vertex_of m c.in-Some.d)) c.loop-d.page
corner g c r =
    let m = mesh g.S.Skin c.args.self.now.skin.now in
    items_room (λ d. corner_text (vertex_of m d)) (ring (way m c.args.self.now.backward) c.args.h) c.loop-d.yielded c.in-Some.d line_end (dart g c) r c.loop-d.invariant

pub byte-requires : goal.byte-requires
byte-requires g c =
    let at = goal.at.byte-requires g c in
    first_room _ (corner g at.In-Some (room_next c.number.ensures (room g at.After-count)))

pub index-requires : goal.index-requires
index-requires g c = omega (arith, below g (goal.at.index-requires g c).In-Some, c.args.self.now.all)

-- the number that the table says of it
number : (g : given.Over) (c : After-index g) → c.in-Some.d < g.S.Skin.n c.args.self.now.skin.now →
    c.index.result.now ≡ vertex_of (mesh g.S.Skin c.args.self.now.skin.now) c.in-Some.d
number g c b = c.index.ensures ∙ number_at (mesh g.S.Skin c.args.self.now.skin.now) _ c.in-Some.d _ c.index.result.now c.args.self.now.numbered b

pub number-requires-in-loop-d : goal.number-requires-in-loop-d
number-requires-in-loop-d g c =
    let at = goal.at.number-requires-in-loop-d g c in
    subst (λ x. HasRoom (decimal x) c.byte.new.self) (sym (number g at.After-index (below g at.In-Some)))
    (room_next c.byte.ensures (corner g at.In-Some (room_next c.number.ensures (room g at.After-count))))

pub loop-d-preserved : goal.loop-d-preserved
loop-d-preserved g c =
    let m = mesh g.S.Skin c.args.self.now.skin.now in
    let at = goal.at.loop-d-preserved g c in
    items_put (λ d. corner_text (vertex_of m d)) c.loop-d.yielded c.in-Some.d c.loop-d.invariant
    (subst (λ x. Grows (corner_text x) c.loop-d.page c.number-in-loop-d.new.self) (number g at.After-index (below g at.In-Some)) (grows_on c.byte.ensures c.number-in-loop-d.ensures))

-- all darts of the face came
whole : (g : given.Over) (c : In-None g) →
    let m = mesh g.S.Skin c.args.self.now.skin.now in
    Grows (flat_map (λ d. corner_text (vertex_of m d)) (ring (way m c.args.self.now.backward) c.args.h)) c.number.new.self c.loop-d.page
whole g c =
    let m = mesh g.S.Skin c.args.self.now.skin.now in
    let all = ended (darts_left g.S.Skin) c.into_iter-d-iterator.ensures.into_iter_gives (c.corners-d-items.ensures ∙ ring_of_is m.n (way m c.args.self.now.backward) c.args.h c.requires.dart)
    c.loop-d.yielded c.loop-d.d-iterator c.next.new.self c.loop-d.yielded_by c.next.ensures.steps c.in-None.is in
    subst (λ xs. Grows (flat_map (λ d. corner_text (vertex_of m d)) xs) c.number.new.self c.loop-d.page) all c.loop-d.invariant

pub byte-requires-2 : goal.byte-requires-2
byte-requires-2 g c =
    let at = goal.at.byte-requires-2 g c in
    room_next (whole g at.In-None) (room_next c.number.ensures (room g at.After-count))

pub returns : goal.returns
returns g c =
    let at = goal.at.returns g c in
    subst (λ w. Grows w c.args.page.now c.byte-2.new.self) (sym (text g at.After-count))
    (grows_on c.number.ensures (grows_on (whole g at.In-None) c.byte-2.ensures))
