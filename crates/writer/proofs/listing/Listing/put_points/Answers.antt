use Rattle.std.proofs.Common.{arith}
use Rattle.mesh.specs.Mesh.{turn}
use Rattle.mesh.specs.Count.{leaders}
use Rattle.skin.specs.Skins.{mesh}
use Rattle.sheet.specs.Sheet.{point_text}
use Rattle.writer.specs.Points.{point_at}
use Rattle.writer.proofs.Pages.{items_put}
use Rattle.writer.proofs.Turns.{Came, leaders_left, came}
use Rattle.writer.proofs.Limits.{leader_below}
use Rattle.writer.proofs.ByLine.{each_room}
use Rattle.writer.proofs.listing.Listing.put_points.Given as given
use Rattle.writer.proofs.listing.Listing.put_points.Goals as goal
use Rattle.writer.proofs.listing.Listing.put_points.Goals.{In-Some}

vertex : (g : given.Over) (c : In-Some g) →
    let m = mesh g.S.Skin c.args.self.now.skin.now in
    Came (leaders (turn m) m.n) c.loop-h.yielded c.in-Some.h
vertex g c =
    came (leaders_left g.S.Skin) c.into_iter-h-iterator.ensures.into_iter_gives c.leaders-h-items.ensures
    c.loop-h.yielded c.loop-h.h-iterator c.next.new.self c.loop-h.yielded_by c.next.ensures.steps c.in-Some.is

pub bounds-self-h : goal.bounds-self-h
bounds-self-h g c =
    let m = mesh g.S.Skin c.args.self.now.skin.now in
    omega (arith, leader_below (turn m) m.n _ _ (vertex g (goal.at.bounds-self-h g c).In-Some), c.args.self.now.long)

pub put_point-requires : goal.put_point-requires
put_point-requires g c =
    let m = mesh g.S.Skin c.args.self.now.skin.now in
    each_room point_text (point_at c.args.self.now.points.now) (turn m) m.n _ _ (vertex g (goal.at.put_point-requires g c).In-Some) c.requires c.loop-h.invariant

pub loop-h-preserved : goal.loop-h-preserved
loop-h-preserved g c =
    items_put (λ h. point_text (point_at c.args.self.now.points.now h)) c.loop-h.yielded c.in-Some.h c.loop-h.invariant c.put_point.ensures
