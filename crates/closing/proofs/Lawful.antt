-- A sheet in which none of the causes is found closes to a skin.
use Rattle.std.proofs.Common.{◌≡◌, ℕ, ◌+◌, ◌-◌, ◌<◌, ◌≤◌, eqb, ltb, length, get_or, None, sym, refl, ap, ◌∙◌, ⊎_elim, arith}
use Rattle.std.proofs.lemmas.Bool.{cases_order, not-false, both_ways, and_cases, ltb-true, ltb-false, eqb-true, eq-eqb}
use Rattle.mesh.specs.Mesh.{Lawful, ring, turn}
use Rattle.mesh.specs.Smallest.{smallest}
use Rattle.mesh.proofs.Rings.{ring_bound}
use Rattle.mesh.proofs.Smallest.{none_below, any_some, any_none, any_from}
use Rattle.closing.specs.Numbering.{start, face, next}
use Rattle.closing.specs.Sheet.{Sheet, darts, mesh, from, to, twin, odd, stray, twice, met, single, bare, several, crowded}
use Rattle.closing.specs.Law.{Reaches, Skins}
use Rattle.closing.proofs.Numbering.{In, place, in_total, in_next, in_prev, undo_next, undo_prev, round, next_moves, face_ring}
use Rattle.closing.proofs.Scans as scans
use Rattle.closing.proofs.Turning.{back, twin_twin, kept}

-- none of the causes is found
pub record Sound (s : Sheet) : Type 0 where
  pub faces : smallest (length s.lengths) (odd s.lengths) ≡ None
  pub few : darts s ≤ 1048576
  pub known : smallest (darts s) (stray s.points s.corners) ≡ None
  pub once : smallest (length s.lengths) (twice s) ≡ None
  pub new : smallest (darts s) (met s) ≡ None
  pub paired : smallest (darts s) (single s) ≡ None
  pub used : smallest s.points (bare s) ≡ None
  pub whole : smallest s.points (several s) ≡ None
  pub roomy : smallest s.points (crowded s) ≡ None

module _ (s : Sheet) (ok : Sound s) where
  at : (h : ℕ) → h < darts s → In s.lengths (face s.lengths h) h
  at h l = place s.lengths h l

  sized : (f : ℕ) → f < length s.lengths → (3 ≤ get_or s.lengths f 0) × (get_or s.lengths f 0 ≤ 64)
  sized = scans.sized s.lengths ok.faces

  -- a face names no vertex twice
  pub apart : (f i j : ℕ) → f < length s.lengths → i < j → j < get_or s.lengths f 0 → from s (start s.lengths f + i) ≡ from s (start s.lengths f + j) → ⊥
  apart f i j l a b e =
      both_ways (twice s f) (none_below (twice s) (length s.lengths) ok.once f l)
      (any_from _ (get_or s.lengths f 0) j b (any_from _ j i a (eq-eqb _ _ e)))

  apart_in : (f g h : ℕ) → In s.lengths f g → In s.lengths f h → g < h → from s g ≡ from s h → ⊥
  apart_in f g h i j lt e =
      let a = start s.lengths f in
      apart f (g - a) (h - a) i.below (omega arith) (omega arith)
      (ap (λ (x : ℕ). from s x) (let q : a + (g - a) ≡ g = omega arith in q) ∙ e ∙ ap (λ (x : ℕ). from s x) (let q : h ≡ a + (h - a) = omega arith in q))

  pub moves : (h : ℕ) → h < darts s → from s h ≡ to s h → ⊥
  moves h l e =
      let f = face s.lengths h in
      let i = at h l in
      let j = in_next s.lengths f h i in
      let k = sized f i.below in
      let x = next s.lengths h in
      ⊎_elim
      (λ (q : h ≡ x). next_moves s.lengths f h i (omega arith) (sym q))
      (λ o. ⊎_elim (λ lt. apart_in f h x i j lt e) (λ lt. apart_in f x h j i lt (sym e)) o)
      (cases_order h x)

  twin_other : (h : ℕ) → h < darts s → twin s h ≡ h → ⊥
  twin_other h l e = moves h l (sym (ap (from s) e) ∙ (back s ok.new ok.paired h l).starts)

  pub known : (h : ℕ) → h < darts s → from s h < s.points
  known h l = ltb-true (from s h) s.points (not-false _ (none_below (stray s.points s.corners) (darts s) ok.known h l))

  short_vertex : (h : ℕ) → h < darts s → length (ring (turn (mesh s)) h) ≤ 64
  short_vertex h l =
      let t = any_none _ (darts s) (none_below (crowded s) s.points ok.roomy (from s h) (known h l)) h l in
      ⊎_elim
      (λ e. absurd (both_ways (eqb (from s h) (from s h)) e (eq-eqb _ _ refl)))
      (λ e. ltb-false 64 (length (ring (turn (mesh s)) h)) e)
      (and_cases (eqb (from s h) (from s h)) (ltb 64 (length (ring (turn (mesh s)) h))) t)

  short_face : (h : ℕ) → h < darts s → length (ring (next s.lengths) h) ≤ 64
  short_face h l =
      let f = face s.lengths h in
      let k = sized f (at h l).below in
      let b : length (ring (next s.lengths) h) ≤ get_or s.lengths f 0 = ring_bound (next s.lengths) h (get_or s.lengths f 0) (omega arith) (round s.lengths f h (at h l)) in
      omega arith

  pub lawful : Lawful (mesh s)
  lawful = record {
    few = ok.few;
    next_below = λ h l. in_total s.lengths _ _ (in_next s.lengths _ h (at h l));
    prev_below = λ h l. in_total s.lengths _ _ (in_prev s.lengths _ h (at h l));
    twin_below = λ h l. (back s ok.new ok.paired h l).below;
    next_prev = λ h l. undo_prev s.lengths _ h (at h l);
    prev_next = λ h l. undo_next s.lengths _ h (at h l);
    twin_twin = twin_twin s ok.new ok.paired;
    twin_other = twin_other;
    faces_short = short_face;
    vertices_short = short_vertex;
  }

  reached : (g h : ℕ) → g < darts s → h < darts s → from s g ≡ from s h → Reaches (turn (mesh s)) g h
  reached g h l m e =
      let v = from s h in
      let a = any_none _ (darts s) (none_below (several s) s.points ok.whole v (known h m)) h m in
      let b = ⊎_elim (λ q. absurd (both_ways (eqb v v) q (eq-eqb _ _ refl))) (λ q. q) (and_cases (eqb v v) _ a) in
      let c = any_none _ (darts s) b g l in
      let d = ⊎_elim (λ q. absurd (both_ways (eqb (from s g) v) q (eq-eqb _ _ e))) (λ q. not-false _ q) (and_cases (eqb (from s g) v) _ c) in
      let k = any_some _ (darts s) d in
      (k.0, eqb-true _ _ k.2.marked)

  pub used : (v : ℕ) → v < s.points → (h : ℕ) × (h < darts s) × (from s h ≡ v)
  used v l =
      let f = any_some _ (darts s) (not-false _ (none_below (bare s) s.points ok.used v l)) in
      (f.0, f.2.below, eqb-true _ _ f.2.marked)

  pub closes : Skins s (mesh s)
  closes = record {
    n = refl;
    lawful = lawful;
    next = λ h l. refl;
    faces = λ f l. let k = sized f l in face_ring s.lengths f l (omega arith) k.1;
    vertex_ring = λ g h l m r. sym (kept s ok.new ok.paired g l r.0) ∙ ap (from s) r.1;
    ring_vertex = reached;
  }
