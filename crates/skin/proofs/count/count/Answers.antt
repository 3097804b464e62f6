use Rattle.std.proofs.Common.{◌*◌, ◌/◌, ap, ◌∙◌, rules}
use Rattle.mesh.proofs.Figures.{even}
use Rattle.mesh.proofs.Once.{once}
use Rattle.mesh.proofs.DualLaws.{turn_below}
use Rattle.skin.specs.Skins.{mesh}
use Rattle.skin.proofs.count.count.Goals as goal

pub returns : goal.returns
returns g c =
    let m = mesh g.S.Skin c.args.skin.now in
    let l = g.S.Skin.lawful c.args.skin.now in
    record {
      answer = search rules;
      rings = record {
        vertices = c.ring_count.ensures.classes;
        edges = ap (λ x. 2 * (x / 2)) c.n.ensures ∙ even m l;
        faces = c.ring_count-2.ensures.classes;
        once = λ h b. (once m.n m.next l.next_below l.faces_short h b, once m.n _ (turn_below m l) l.vertices_short h b);
      };
    }
