-- A new workpiece means the skin, and the law starts.
use Rattle.std.proofs.Common.{◌≡◌, ◌++◌, sym, refl, ap, ◌∙◌, subst}
use Rattle.skin.specs.Skins.{mesh}
use Rattle.workpiece.specs.Carriers.{carried}
use Rattle.workpiece.specs.Reckoning.{opening}
use Rattle.workpiece.specs.Law.{Faithful}
use Rattle.workpiece.proofs.Split.{open_faithful}
use Rattle.workpiece.proofs.piece.Workpiece.open.Goals as goal

pub returns : goal.returns
returns g c =
    let k = g.S.Skin in
    let s = c.args.skin in
    let o = c.over.ensures in
    let m : carried k c.over.result ≡ mesh k s = o.mesh (mesh k c.over.result.ladder.base) ∙ ap (mesh k) o.base in
    record {
      held = o.base;
      carried = m;
      split_so = o.splits;
      averaged_so = refl;
      faithful = λ d slack t rest q.
          subst (λ M. Faithful d slack (opening (mesh k s) t) (record { carrier = M; splits = c.over.result.ladder.count; averages = 0 }) (t ++ rest)) (sym m)
          (subst (λ n. Faithful d slack (opening (mesh k s) t) (record { carrier = mesh k s; splits = n; averages = 0 }) (t ++ rest)) (sym o.splits)
          (open_faithful d slack (k.lawful s) t rest q.fits q.agree));
    }
