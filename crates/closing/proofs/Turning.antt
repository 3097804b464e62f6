-- Where each directed edge is there once, with its opposite, turning about a vertex goes round it.
use Rattle.std.proofs.Common.{◌≡◌, ℕ, zero, suc, ◌+◌, ◌-◌, ◌<◌, Bool, true, false, eqb, None, unwrap_or, sym, ap, ◌∙◌, subst, ⊎_elim, arith}
use Rattle.std.proofs.lemmas.Bool.{cases_Bool, cases_order, not-false, both_ways, and_parts, and_from, eqb-true, eq-eqb}
use Rattle.mesh.specs.Mesh.{times, turn, Period}
use Rattle.mesh.specs.Smallest.{smallest, any}
use Rattle.mesh.proofs.Rings.{times_zero, times_suc, times_keeps}
use Rattle.mesh.proofs.Periods.{steps_few, within_period}
use Rattle.mesh.proofs.Smallest.{none_below, any_some, any_none, any_from}
use Rattle.closing.specs.Numbering.{face, next, prev}
use Rattle.closing.specs.Sheet.{Sheet, darts, mesh, from, to, alike, opposite, twin, met, single, comes}
use Rattle.closing.proofs.Numbering.{place, in_total, in_next, undo_next}

-- g goes back where h comes from
pub record Back (s : Sheet) (h g : ℕ) : Type 0 where
  pub below : g < darts s
  pub starts : from s g ≡ to s h
  pub ends : to s g ≡ from s h

-- two darts with the same directed edge are one
earlier : (s : Sheet) → smallest (darts s) (met s) ≡ None → (g h : ℕ) → h < darts s → from s g ≡ from s h → to s g ≡ to s h → g < h → ⊥
earlier s new g h l a b lt =
    both_ways (met s h) (none_below (met s) (darts s) new h l)
    (any_from (alike s h) h g lt (and_from _ _ (eq-eqb _ _ a) (eq-eqb _ _ b)))

pub one_edge : (s : Sheet) → smallest (darts s) (met s) ≡ None → (g h : ℕ) → g < darts s → h < darts s → from s g ≡ from s h → to s g ≡ to s h → g ≡ h
one_edge s new g h k l a b =
    ⊎_elim (λ e. e) (λ o. ⊎_elim (λ lt. absurd (earlier s new g h l a b lt)) (λ lt. absurd (earlier s new h g k (sym a) (sym b) lt)) o) (cases_order g h)

module _ (s : Sheet) (new : smallest (darts s) (met s) ≡ None) (paired : smallest (darts s) (single s) ≡ None) where
  -- each dart has an opposite
  pub back : (h : ℕ) → h < darts s → Back s h (twin s h)
  unfolding twin
  back h l =
      let f = any_some (opposite s h) (darts s) (not-false _ (none_below (single s) (darts s) paired h l)) in
      let p = and_parts (eqb (from s f.0) (to s h)) (eqb (to s f.0) (from s h)) f.2.marked in
      subst (Back s h) (sym (ap (λ o. unwrap_or o 0) f.1))
      (record { below = f.2.below; starts = eqb-true _ _ p.0; ends = eqb-true _ _ p.1 })

  pub twin_twin : (h : ℕ) → h < darts s → twin s (twin s h) ≡ h
  twin_twin h l =
      let b = back h l in
      let c = back (twin s h) b.below in
      one_edge s new (twin s (twin s h)) h c.below l (c.starts ∙ b.ends) (c.ends ∙ b.starts)

  pub vertex_kept : (h : ℕ) → h < darts s → from s (turn (mesh s) h) ≡ from s h
  vertex_kept h l = (back h l).ends

  pub turn_below : (h : ℕ) → h < darts s → turn (mesh s) h < darts s
  turn_below h l =
      let b = back h l in
      let f = face s.lengths (twin s h) in
      in_total s.lengths f (next s.lengths (twin s h)) (in_next s.lengths f (twin s h) (place s.lengths (twin s h) b.below))

  abbrev pub unturn : ℕ → ℕ
  unturn h = twin s (prev s.lengths h)

  pub turn_back : (h : ℕ) → h < darts s → unturn (turn (mesh s) h) ≡ h
  turn_back h l = ap (twin s) (undo_next s.lengths _ (twin s h) (place s.lengths (twin s h) (back h l).below)) ∙ twin_twin h l

  pub kept : (g : ℕ) → g < darts s → (k : ℕ) → from s (times k (turn (mesh s)) g) ≡ from s g
  kept g l zero = ap (from s) (times_zero (turn (mesh s)) g)
  kept g l (suc k) =
      ap (from s) (times_suc k (turn (mesh s)) g)
      ∙ vertex_kept (times k (turn (mesh s)) g) (times_keeps (darts s) (turn (mesh s)) turn_below k g l) ∙ kept g l k

  -- turning g, some number of steps below n comes to whatever turning comes to
  pub steps_come : (g h : ℕ) → g < darts s → (k : ℕ) → times k (turn (mesh s)) g ≡ h → comes s g h ≡ true
  steps_come g h l k e =
      let f = turn (mesh s) in
      let home : ℕ → Bool = λ j. eqb (times (j + 1) f g) g in
      ⊎_elim
      (λ (t : any (darts s) home ≡ true).
      let y = any_some home (darts s) t in
      let r = y.0 + 1 in
      let per : Period f g r = record {
        positive = omega arith;
        back = eqb-true _ _ y.2.marked;
        least = λ j a b q.
            both_ways (home (j - 1)) (y.2.first (j - 1) (omega arith))
            (eq-eqb _ _ (ap (λ (x : ℕ). times x f g) (let w : j - 1 + 1 ≡ j = omega arith in w) ∙ q));
      } in
      let i = within_period f g r per k in
      let below : y.0 < darts s = y.2.below in
      let few : i.0 < y.0 + 1 = i.1 in
      any_from _ (darts s) i.0 (let w : i.0 < darts s = omega arith in w) (eq-eqb _ _ (i.2 ∙ e)))
      (λ (t : any (darts s) home ≡ false). absurd (
      let few = steps_few (darts s) f unturn turn_below turn_back g (darts s + 1) l
      (λ j a b q.
      both_ways (home (j - 1)) (any_none home (darts s) t (j - 1) (omega arith))
      (eq-eqb _ _ (ap (λ (x : ℕ). times x f g) (let w : j - 1 + 1 ≡ j = omega arith in w) ∙ q))) in
      omega arith))
      (cases_Bool (any (darts s) home))
