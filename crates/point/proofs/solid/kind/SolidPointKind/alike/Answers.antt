-- Points are alike where their coordinates are the same.
use Rattle.std.proofs.Common.{List, ℤ, ap}
use Rattle.std.proofs.lemmas.Bool.Decides.{Decides-at, Decides-like, Decides-and, Decides-int_eq}
use Rattle.point.specs.Points.{coordinate}
use Rattle.point.specs.SolidPoints.{three_same}
use Rattle.point.proofs.solid.kind.SolidPointKind.alike.Goals as goal

pub returns : goal.returns
returns c =
    let a = c.args.a.now in
    let b = c.args.b.now in
    Decides-at _ _ c.eq.ensures (Decides-like _ (λ e. three_same e.0 e.1.0 e.1.1) (λ e. (ap (λ (zs : List ℤ). coordinate zs 0) e, (ap (λ (zs : List ℤ). coordinate zs 1) e, ap (λ (zs : List ℤ). coordinate zs 2) e)))
    (Decides-and _ _ (Decides-int_eq a.x b.x) (Decides-and _ _ (Decides-int_eq a.y b.y) (Decides-int_eq a.z b.z))))
