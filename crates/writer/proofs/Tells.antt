-- What the sheet of a mesh tells.
use Rattle.std.proofs.Common.{◌≡◌, ℕ, ◌<◌, Bool, true, List, [], sym, ap, ◌∙◌, subst, arith}
use Rattle.std.proofs.lemmas.List.{length-map, get_or-map}
use Rattle.mesh.specs.Mesh.{Mesh, Lawful, turn, times}
use Rattle.mesh.specs.Count.{leads, rings, leaders}
use Rattle.mesh.proofs.Rings.{On, on_steps, on_sym, on_trans}
use Rattle.mesh.proofs.Ranks.{rank_below, rank_same, rank_every}
use Rattle.mesh.proofs.Rounds.{Rounds, face_rounds, vertex_rounds}
use Rattle.point.specs.declared.solid.SolidRecord.{SolidRecord}
use Rattle.writer.specs.Points.{origin, point_at}
use Rattle.writer.specs.Listing.{lead, vertex_of, corners_from}
use Rattle.writer.specs.Told.{Told, Numbers, face_of}
use Rattle.mesh.proofs.Leaders.{leaders_count}
use Rattle.writer.proofs.Leaders.{lead_on, lead_lowest, lead_down, lead_same, lead_lead, lead_leads, lead_short, leads_lead, lead_at}
use Rattle.writer.proofs.Bounds.{each_all, faces_all, face_corners, text_bound}
use Rattle.writer.proofs.Limits.{ranged}

module _ (n : ℕ) (f : ℕ → ℕ) (r : Rounds n f) where
  leads_its : (h : ℕ) → h < n → leads f (lead f h) ≡ true
  leads_its h b = lead_leads f (lead f h) (lead_short f h (r.short h b)) (lead_lead f h (r.short h b))

  pub numbers : Numbers n f (λ h. rings f (lead f h)) (rings f n)
  numbers =
      record {
        smallest = λ h b. let o = lead_on f h (r.short h b) in record { steps = o.0; reached = o.2; lowest = lead_lowest f h (r.short h b) };
        below = λ h b. rank_below (leads f) (lead f h) n (leads_its h b) (omega (arith, lead_down f h (r.short h b)));
        every = λ x b.
            let q = rank_every (leads f) n x b in
            (q.0, q.1, ap (rings f) (leads_lead f q.0 (r.short q.0 q.1) q.2) ∙ q.3);
        together = λ h i b. ap (rings f) (lead_same f h (times i f h) (r.short h b) (on_steps f h (r.short h b) i));
        joined = λ h d b c e.
            let q : lead f h ≡ lead f d = rank_same (leads f) (lead f h) (lead f d) (leads_its h b) (leads_its d c) e in
            let o : On f (lead f h) d = subst (λ x. On f x d) (sym q) (on_sym f d (lead f d) (r.short d c) (lead_on f d (r.short d c))) in
            let t = on_trans f h (lead f h) d (r.short h b) (lead_on f h (r.short h b)) o in
            (t.0, t.2);
        ordered = λ h d b c lt. rank_below (leads f) (lead f h) (lead f d) (leads_its h b) lt;
      }

pub told : (m : Mesh) → Lawful m → (table : List SolidRecord) (backward : Bool) → Told m table backward
told m l table backward =
    record {
      points_counted = length-map (leaders (turn m) m.n) (point_at table) ∙ leaders_count (turn m) m.n;
      faces_counted = length-map (leaders m.next m.n) (corners_from m backward) ∙ leaders_count m.next m.n;
      corners_counted = each_all (λ vs. vs) (corners_from m backward) m.next m.n (face_corners m l backward) ∙ faces_all m l;
      vertices_numbered = numbers m.n (turn m) (vertex_rounds l);
      faces_numbered = numbers m.n m.next (face_rounds l);
      point = λ h b.
          let a = lead_at (turn m) m.n h l.vertices_short b in
          get_or-map (point_at table) (leaders (turn m) m.n) (vertex_of m h) 0 origin a.inside ∙ ap (point_at table) a.here;
      face = λ h b.
          let a = lead_at m.next m.n h l.faces_short b in
          get_or-map (corners_from m backward) (leaders m.next m.n) (face_of m h) 0 [] a.inside ∙ ap (corners_from m backward) a.here;
      ranged = ranged m l table backward;
      bounded = text_bound m l table backward;
    }
