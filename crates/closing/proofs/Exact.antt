-- A sheet has no fault exactly if some skin has its faces and vertices.
use Rattle.std.proofs.Common.{◌≡◌, ℕ, zero, suc, ◌<◌, ◌≤◌, true, eqb, length, get_or, None, sym, ap, ◌∙◌, subst, ⊎_elim, arith}
use Rattle.std.proofs.lemmas.Bool.{cases_Bool, cases_lt, not_from_true, and_parts, and_right, le-ltb, lt-ltb, eqb-true, eq-eqb, ne_eqb}
use Rattle.mesh.specs.Mesh.{Mesh, Lawful, Same, times, ring, turn}
use Rattle.mesh.specs.Smallest.{smallest}
use Rattle.mesh.proofs.Rings.{times_zero, times_suc, times_keeps, ring_pos, ring_least, on_steps}
use Rattle.mesh.proofs.Periods.{steps_few}
use Rattle.mesh.proofs.Same.{same_lawful, same_turn, same_face}
use Rattle.mesh.proofs.Smallest.{none_from, any_from, any_not}
use Rattle.closing.specs.Numbering.{start, next, prev}
use Rattle.closing.specs.Sheet.{Sheet, darts, mesh, from, to, alike, odd, stray, twice, met, single, bare, comes, several, crowded}
use Rattle.closing.specs.Edges.{Goes}
use Rattle.closing.specs.Law.{Reaches, Skins, Closable}
use Rattle.std.proofs.lemmas.List.FromFn.{length-range_with_len}
use Rattle.closing.proofs.Numbering.{place, in_prev, in_total, undo_prev, ends}
use Rattle.closing.proofs.Scans.{sized, odd_not}
use Rattle.closing.proofs.Turning.{one_edge, turn_below, unturn, turn_back}
use Rattle.closing.proofs.Lawful.{Sound, closes, apart, known, used}
use Rattle.closing.proofs.EdgeOrder.{opposed}
use Rattle.closing.proofs.VertexRings.{several_not, bare_not}

pub closable : (s : Sheet) → Sound s → Closable s
closable s ok =
    record {
      faces = sized s.lengths ok.faces;
      few = ok.few;
      known = known s ok;
      used = used s ok;
      once = apart s ok;
      new = one_edge s ok.new;
      skin = (mesh s, closes s ok);
    }

agree_steps : (n : ℕ) (f g : ℕ → ℕ) → ((h : ℕ) → h < n → f h < n) → ((h : ℕ) → h < n → g h ≡ f h) → (k h : ℕ) → h < n → times k g h ≡ times k f h
agree_steps n f g keeps agree zero h l = times_zero g h ∙ sym (times_zero f h)
agree_steps n f g keeps agree (suc k) h l =
    times_suc k g h ∙ ap g (agree_steps n f g keeps agree k h l) ∙ agree (times k f h) (times_keeps n f keeps k h l) ∙ sym (times_suc k f h)

-- what means the same as a skin of the sheet is one
pub skins_same : (s : Sheet) (a b : Mesh) → Skins s a → Same a b → Skins s b
skins_same s a b k e =
    let l = k.lawful in
    let into : (h : ℕ) → h < darts s → h < a.n = λ h u. subst (λ (x : ℕ). h < x) (sym k.n) u in
    let turns : (i h : ℕ) → h < darts s → times i (turn b) h ≡ times i (turn a) h =
    λ i h u. agree_steps a.n (turn a) (turn b) (λ x v. l.next_below (a.twin x) (l.twin_below x v)) (λ x v. sym (same_turn a b l e x v)) i h (into h u) in
    record {
      n = sym e.n ∙ k.n;
      lawful = same_lawful a b l e;
      next = λ h u. sym (e.next h (into h u)) ∙ k.next h u;
      faces = λ f u.
          ⊎_elim
          (λ (w : start s.lengths f < darts s). same_face a b l e (start s.lengths f) (into _ w) ∙ k.faces f u)
          (λ (w : darts s ≤ start s.lengths f). absurd (empty_face f u w))
          (cases_lt (start s.lengths f) (darts s));
      vertex_ring = λ g h u v r. k.vertex_ring g h u v (r.0, sym (turns r.0 g u) ∙ r.1);
      ring_vertex = λ g h u v q. let r = k.ring_vertex g h u v q in (r.0, turns r.0 g u ∙ r.1);
    }
  where
    -- the ring of a face that starts at n would have no dart
    empty_face : (f : ℕ) → f < length s.lengths → darts s ≤ start s.lengths f → ⊥
    empty_face f u w =
        let x = ends s.lengths f u in
        let y : length (ring a.next (start s.lengths f)) ≡ get_or s.lengths f 0 = ap length (k.faces f u) ∙ length-range_with_len _ _ in
        let z = ring_pos a.next (start s.lengths f) in
        omega arith

module _ (s : Sheet) (c : Closable s) where
  m : Mesh
  m = c.skin.0

  k : Skins s m
  unfolding m
  k = c.skin.1

  l : Lawful m
  l = k.lawful

  into : (h : ℕ) → h < darts s → h < m.n
  into h b = subst (λ (x : ℕ). h < x) (sym k.n) b

  out : (h : ℕ) → h < m.n → h < darts s
  out h b = subst (λ (x : ℕ). h < x) k.n b

  new : smallest (darts s) (met s) ≡ None
  new = none_from (met s) (darts s) (λ h b. any_not (alike s h) h (λ g u. ⊎_elim
      (λ e. let p = and_parts (eqb (from s g) (from s h)) (eqb (to s g) (to s h)) e in
      let q : g ≡ h = c.new g h (omega arith) b (eqb-true _ _ p.0) (eqb-true _ _ p.1) in absurd (omega arith))
      (λ e. e) (cases_Bool (alike s h g))))

  one_step : (h : ℕ) → Reaches (turn m) h (turn m h)
  one_step h = (1, times_suc 0 (turn m) h ∙ ap (turn m) (times_zero (turn m) h))

  -- the skin's twin goes back
  goes_back : (h : ℕ) → h < darts s → Goes s (to s h) (from s h) (m.twin h)
  goes_back h b =
      let t = m.twin h in
      let tb : t < darts s = out t (l.twin_below h (into h b)) in
      let nt : m.next t ≡ next s.lengths t = k.next t tb in
      let nh : m.next h ≡ next s.lengths h = k.next h b in
      let over : turn m t ≡ m.next h = ap m.next (l.twin_twin h (into h b)) in
      let a = k.vertex_ring h (turn m h) b (out _ (l.next_below t (into t tb))) (one_step h) in
      let d = k.vertex_ring t (turn m t) tb (out _ (l.next_below (m.twin t) (l.twin_below t (into t tb)))) (one_step t) in
      record { below = tb; starts = d ∙ ap (from s) (over ∙ nh); ends = sym (a ∙ ap (from s) nt) }

  paired : smallest (darts s) (single s) ≡ None
  paired = none_from (single s) (darts s) (λ h b. (opposed s new h (m.twin h) b (goes_back h b)).0)

  agrees : Same m (mesh s)
  agrees = record {
    n = k.n;
    next = λ h b. k.next h (out h b);
    prev = λ h b.
        let i = place s.lengths h (out h b) in
        let p : prev s.lengths h < darts s = in_total s.lengths _ _ (in_prev s.lengths _ h i) in
        ap m.prev (sym (k.next (prev s.lengths h) p ∙ undo_prev s.lengths _ h i)) ∙ l.prev_next (prev s.lengths h) (into _ p);
    twin = λ h b. (opposed s new h (m.twin h) (out h b) (goes_back h (out h b))).1;
  }

  skin : Lawful (mesh s)
  skin = same_lawful m (mesh s) l agrees

  keeps : (h : ℕ) → h < darts s → turn (mesh s) h < darts s
  keeps = turn_below s new paired

  all_come : (g h : ℕ) → g < darts s → h < darts s → from s g ≡ from s h → comes s g h ≡ true
  all_come g h a b e =
      let r = k.ring_vertex g h a b e in
      let f = turn (mesh s) in
      let short : length (ring f g) ≤ 64 = skin.vertices_short g a in
      let o = on_steps f g short r.0 in
      let few : length (ring f g) ≤ darts s = steps_few (darts s) f (unturn s new paired) keeps (turn_back s new paired) g (length (ring f g)) a (λ j p u. ring_least f g j p u) in
      let lt : o.0 < length (ring f g) = o.1 in
      any_from _ (darts s) o.0 (let w : o.0 < darts s = omega arith in w)
      (eq-eqb _ _ (o.2 ∙ sym (agree_steps (darts s) f (turn m) keeps (λ h u. same_turn m (mesh s) l agrees h (into h u)) r.0 g a) ∙ r.1))

  pub closable_sound : Sound s
  closable_sound = record {
    faces = none_from (odd s.lengths) (length s.lengths) (λ f b. let p = c.faces f b in odd_not s.lengths f p.0 p.1);
    few = c.few;
    known = none_from (stray s.points s.corners) (darts s) (λ h b. not_from_true _ (lt-ltb (from s h) s.points (c.known h b)));
    once = none_from (twice s) (length s.lengths) (λ f b. any_not _ (get_or s.lengths f 0) (λ j u. any_not _ j (λ i v. ne_eqb _ _ (c.once f i j b v u))));
    new = new;
    paired = paired;
    used = none_from (bare s) s.points (λ v b. let w = c.used v b in bare_not s v w.0 w.1 w.2);
    whole = none_from (several s) s.points (λ v b. several_not s v (λ g h x y p q. all_come g h x y (p ∙ sym q)));
    roomy = none_from (crowded s) s.points (λ v b. any_not _ (darts s) (λ h u. and_right _ _ (le-ltb 64 (length (ring (turn (mesh s)) h)) (skin.vertices_short h u))));
  }
