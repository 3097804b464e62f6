-- Each table holds what its call answers of the darts.
use Rattle.std.proofs.Common.{rules, ◌≡◌, ℕ, vec_items, refl, Ok, arith}
use borrow.Author.Tests.{tests}
use Rattle.std.specs.List.{filter_map, range_with_len}
use Rattle.std.proofs.lemmas.Iterator.{items_from_collect, YieldsList-from_range}
use Rattle.std.proofs.lemmas.Iterator.Consumers.{YieldsList-from_filter_map}
use Rattle.mesh.specs.Mesh.{within}
use Rattle.skin.specs.Skins.{mesh}
use Rattle.tour.proofs.Copying.{place}
use Rattle.tour.proofs.copy.copied.Goals as goal

pub returns : goal.returns
returns g c =
    let m = mesh g.S.Skin c.args.skin.now in
    let next : vec_items c.in_ok-next.next ≡ filter_map (λ h. within m.n h (m.next h)) (range_with_len 0 c.n.result)
    = items_from_collect {E = ℕ} (Ok c.in_ok-next.next) c.in_ok-next.ensures.ran
    (YieldsList-from_filter_map _ (λ h. within m.n h (m.next h)) (YieldsList-from_range 0 c.n.result c.n.result c.filter_map.ensures.source (omega arith)) c.filter_map.ensures.closure (λ x r q k. search (rules, tests))) in
    let prev : vec_items c.in_ok-prev.prev ≡ filter_map (λ h. within m.n h (m.prev h)) (range_with_len 0 c.n-2.result)
    = items_from_collect {E = ℕ} (Ok c.in_ok-prev.prev) c.in_ok-prev.ensures.ran
    (YieldsList-from_filter_map _ (λ h. within m.n h (m.prev h)) (YieldsList-from_range 0 c.n-2.result c.n-2.result c.filter_map-2.ensures.source (omega arith)) c.filter_map-2.ensures.closure (λ x r q k. search (rules, tests))) in
    let twin : vec_items c.in_ok-twin.twin ≡ filter_map (λ h. within m.n h (m.twin h)) (range_with_len 0 c.n-3.result)
    = items_from_collect {E = ℕ} (Ok c.in_ok-twin.twin) c.in_ok-twin.ensures.ran
    (YieldsList-from_filter_map _ (λ h. within m.n h (m.twin h)) (YieldsList-from_range 0 c.n-3.result c.n-3.result c.filter_map-3.ensures.source (omega arith)) c.filter_map-3.ensures.closure (λ x r q k. search (rules, tests))) in
    record {
      n = refl;
      next = place m.n c.n.result m.next _ next c.n.ensures;
      prev = place m.n c.n-2.result m.prev _ prev c.n-2.ensures;
      twin = place m.n c.n-3.result m.twin _ twin c.n-3.ensures;
    }
