-- The fault that is told is the first of those that a sheet has.
use Rattle.std.proofs.Common.{◌≡◌, ℕ, zero, suc, ◌+◌, ◌-◌, ◌<◌, ◌≤◌, Bool, true, false, cond, not, eqb, ltb, length, get_or, Some, None, Ok, Err, Option, Result, sym, refl, ap, ◌∙◌, subst, inl, inr, ⊎_elim, arith}
use Rattle.std.specs.Option.{option_map}
use Rattle.std.proofs.lemmas.Bool.{cases_lt, cases_eq, both_ways, not-true, not_from_false, and_parts, and_from, or_cases, or_parts, ltb-true, ltb-false, lt-ltb, le-ltb, eqb-true, eq-eqb, ne_eqb}
use Rattle.mesh.specs.Mesh.{ring, turn}
use Rattle.mesh.specs.Smallest.{smallest}
use Rattle.mesh.proofs.Smallest.{Least, some_is, none_below, any_some, any_none, any_from, any_not}
use Rattle.closing.specs.declared.fault.SkinFault.{SkinFault}
use Rattle.closing.specs.declared.fault.SkinFault.TheVariants.{Text, Face, TooMany, Short, Stray, Twice, Met, Single, Bare, Several, Crowded}
use Rattle.closing.specs.Numbering.{start}
use Rattle.closing.specs.Sheet.{Sheet, darts, mesh, from, to, alike, opposite, odd, stray, twice, met, single, bare, comes, several, crowded}
use Rattle.closing.specs.Causes.{Places, Lacks, Repeats, Wrong, rank, thing, Foremost, Told}
use Rattle.closing.specs.Verdict.{unless, judged, scant, verdict}
use Rattle.closing.proofs.Numbering.{start_more}
use Rattle.closing.proofs.Scans.{odd_not, odd_few, odd_many}
use Rattle.closing.proofs.Turning.{steps_come}
use Rattle.closing.proofs.EdgeOrder.{met_from, unopposed}
use Rattle.closing.proofs.VertexRings.{several_from}

-- the fault of a rank that names x
abbrev made : ℕ → ℕ → SkinFault
made zero x = Face x
made (suc zero) x = TooMany
made (suc (suc zero)) x = Short x
made (suc (suc (suc zero))) x = Stray x
made (suc (suc (suc (suc zero)))) x = Twice x
made (suc (suc (suc (suc (suc zero))))) x = Met x
made (suc (suc (suc (suc (suc (suc zero)))))) x = Single x
made (suc (suc (suc (suc (suc (suc (suc zero))))))) x = Bare x
made (suc (suc (suc (suc (suc (suc (suc (suc zero)))))))) x = Several x
made (suc (suc (suc (suc (suc (suc (suc (suc (suc k))))))))) x = Crowded x

module _ (s : Sheet) (p : Places) where
  is_made : (z : SkinFault) → Wrong s p z → made (rank z) (thing z) ≡ z
  is_made (Face f) w = refl
  is_made TooMany w = refl
  is_made (Short n) w = refl
  is_made (Stray h) w = refl
  is_made (Twice h) w = refl
  is_made (Met h) w = refl
  is_made (Single h) w = refl
  is_made (Bare v) w = refl
  is_made (Several v) w = refl
  is_made (Crowded v) w = refl
  is_made (Text e) w = absurd w

  of_rank : (k : ℕ) (z : SkinFault) → rank z ≡ k → Wrong s p z → Wrong s p (made k (thing z))
  of_rank k z e w = subst (λ (r : ℕ). Wrong s p (made r (thing z))) e (subst (Wrong s p) (sym (is_made z w)) w)

  -- what an answer tells where no cause of a rank below k is there
  abbrev From : ℕ → Result ℕ SkinFault → Type 0
  From k (Ok n) = (n ≡ darts s) × ((y : SkinFault) → k ≤ rank y → Wrong s p y → ⊥)
  From k (Err y) = Wrong s p y × ((z : SkinFault) → k ≤ rank z → Wrong s p z → Foremost y z)

  found : (k : ℕ) (y : SkinFault) → rank y ≡ k → Wrong s p y → ((x : ℕ) → Wrong s p (made k x) → thing y ≤ x) → From k (Err y)
  found k y e w least = (
    w,
    λ z l v. ⊎_elim
        (λ (q : rank z ≡ k). inr (e ∙ sym q, least (thing z) (of_rank k z q v)))
        (λ ne. inl (let u : rank y < rank z = omega arith in u))
        (cases_eq (rank z) k),
  )

  next : (k : ℕ) (r : Result ℕ SkinFault) → ((x : ℕ) → Wrong s p (made k x) → ⊥) → From (k + 1) r → From k r
  next k (Ok n) none f = (
    f.0,
    λ z l v. ⊎_elim
        (λ (q : rank z ≡ k). none (thing z) (of_rank k z q v))
        (λ ne. f.1 z (omega arith) v) (cases_eq (rank z) k),
  )
  next k (Err y) none f = (
    f.0,
    λ z l v. ⊎_elim
        (λ (q : rank z ≡ k). absurd (none (thing z) (of_rank k z q v)))
        (λ ne. f.1 z (omega arith) v) (cases_eq (rank z) k),
  )

  -- a cause that names x: the smallest that q marks below n
  by_smallest : (k : ℕ) (F : ℕ → SkinFault) → ((x : ℕ) → made k x ≡ F x) → ((x : ℕ) → rank (F x) ≡ k) → ((x : ℕ) → thing (F x) ≡ x) →
      (n : ℕ) (q : ℕ → Bool) (r : Result ℕ SkinFault) → ((x : ℕ) → Least q n x → Wrong s p (F x)) → ((x : ℕ) → Wrong s p (F x) → (x < n) × (q x ≡ true)) →
      (smallest n q ≡ None → From (k + 1) r) → From k (unless F (smallest n q) r)
  unfolding unless
  by_smallest k F is ranked names n q r means marks rest = go (smallest n q) refl
    where
      go : (o : Option ℕ) → smallest n q ≡ o → From k (unless F o r)
      go (Some x) e =
          let l = some_is q n x e in
          found k (F x) (ranked x) (means x l)
          (λ y w. let m = marks y (subst (Wrong s p) (is y) w) in
          let t : thing (F x) ≡ x = names x in
          ⊎_elim (λ (u : y < x). absurd (both_ways (q y) (l.first y u) m.1)) (λ (u : x ≤ y). let v : thing (F x) ≤ y = omega arith in v) (cases_lt y x))
      go None e = next k r (λ x w. let m = marks x (subst (Wrong s p) (is x) w) in both_ways (q x) (none_below q n e x m.0) m.1) (rest e)

  -- ---- the causes one by one

  face_means : (f : ℕ) → Least (odd s.lengths) (length s.lengths) f → Wrong s p (Face f)
  face_means f l = (
    l.below,
    ⊎_elim (λ u. inl u) (λ u. ⊎_elim (λ v. inr v)
        (λ v. absurd (both_ways (odd s.lengths f) (odd_not s.lengths f u v) l.marked))
        (cases_lt 64 (get_or s.lengths f 0))) (cases_lt (get_or s.lengths f 0) 3),
  )

  face_marks : (f : ℕ) → Wrong s p (Face f) → (f < length s.lengths) × (odd s.lengths f ≡ true)
  face_marks f w = (w.0, ⊎_elim (λ u. odd_few s.lengths f u) (λ u. odd_many s.lengths f u) w.1)

  stray_means : (h : ℕ) → Least (stray s.points s.corners) (darts s) h → Wrong s p (Stray h)
  stray_means h l = (l.below, ltb-false (from s h) s.points (not-true _ l.marked))

  stray_marks : (h : ℕ) → Wrong s p (Stray h) → (h < darts s) × (stray s.points s.corners h ≡ true)
  stray_marks h w = (w.0, not_from_false _ (le-ltb (from s h) s.points w.1))

  repeats : (f : ℕ) → twice s f ≡ true → Repeats s f
  repeats f t =
      let y = any_some _ (get_or s.lengths f 0) t in
      let x = any_some _ y.0 y.2.marked in
      (x.0, y.0, x.2.below, y.2.below, eqb-true _ _ x.2.marked)

  repeated : (f : ℕ) → Repeats s f → twice s f ≡ true
  repeated f w = any_from _ (get_or s.lengths f 0) w.1 w.3 (any_from _ w.1 w.0 w.2 (eq-eqb _ _ w.4))

  met_means : (h : ℕ) → Least (met s) (darts s) h → Wrong s p (Met h)
  met_means h l =
      let g = any_some (alike s h) h l.marked in
      let t = and_parts (eqb (from s g.0) (from s h)) (eqb (to s g.0) (to s h)) g.2.marked in
      (l.below, (g.0, g.2.below, eqb-true _ _ t.0, eqb-true _ _ t.1))

  met_marks : (h : ℕ) → Wrong s p (Met h) → (h < darts s) × (met s h ≡ true)
  met_marks h w = (w.0, met_from s w.1.0 h w.1.1 w.1.2 w.1.3)

  single_means : (h : ℕ) → Least (single s) (darts s) h → Wrong s p (Single h)
  single_means h l = (
    l.below,
    λ g u a b.
        both_ways (opposite s h g) (any_none (opposite s h) (darts s) (not-true _ l.marked) g u) (and_from _ _ (eq-eqb _ _ a) (eq-eqb _ _ b)),
  )

  single_marks : (h : ℕ) → Wrong s p (Single h) → (h < darts s) × (single s h ≡ true)
  single_marks h w = (w.0, unopposed s h (λ g t. w.1 g t.below t.starts t.ends))

  bare_means : (v : ℕ) → Least (bare s) s.points v → Wrong s p (Bare v)
  bare_means v l = (l.below, λ h u e. both_ways (eqb (from s h) v) (any_none _ (darts s) (not-true _ l.marked) h u) (eq-eqb _ _ e))

  bare_marks : (v : ℕ) → Wrong s p (Bare v) → (v < s.points) × (bare s v ≡ true)
  bare_marks v w = (w.0, not_from_false _ (any_not _ (darts s) (λ h u. ne_eqb _ _ (w.1 h u))))

  several_marks : (v : ℕ) → Wrong s p (Several v) → (v < s.points) × (several s v ≡ true)
  several_marks v w =
      let t = w.1 in
      (w.0, several_from s v t.0 t.1 t.2 t.3 t.4 t.5 (any_not _ (darts s) (λ k u. ne_eqb _ _ (λ e. t.6 (k, e)))))

  crowded_means : (v : ℕ) → Least (crowded s) s.points v → Wrong s p (Crowded v)
  crowded_means v l =
      let h = any_some _ (darts s) l.marked in
      let t = and_parts (eqb (from s h.0) v) (ltb 64 (length (ring (turn (mesh s)) h.0))) h.2.marked in
      (l.below, (h.0, h.2.below, eqb-true _ _ t.0, ltb-true 64 _ t.1))

  crowded_marks : (v : ℕ) → Wrong s p (Crowded v) → (v < s.points) × (crowded s v ≡ true)
  crowded_marks v w = (w.0, any_from _ (darts s) w.1.0 w.1.1 (and_from _ _ (eq-eqb _ _ w.1.2) (lt-ltb 64 _ w.1.3)))

  module _ (new : smallest (darts s) (met s) ≡ None) (paired : smallest (darts s) (single s) ≡ None) where
    several_means : (v : ℕ) → Least (several s) s.points v → Wrong s p (Several v)
    several_means v l =
        let h = any_some _ (darts s) l.marked in
        let a = and_parts (eqb (from s h.0) v) _ h.2.marked in
        let g = any_some _ (darts s) a.1 in
        let b = and_parts (eqb (from s g.0) v) (not (comes s g.0 h.0)) g.2.marked in (
          l.below,
          (
            g.0,
            h.0,
            g.2.below,
            h.2.below,
            eqb-true _ _ b.0,
            eqb-true _ _ a.0,
            λ r. both_ways (comes s g.0 h.0) (not-true _ b.1) (steps_come s new paired g.0 h.0 g.2.below r.0 r.1),
          ),
        )

  -- ---- faces that name a vertex twice are told by their first dart

  starts_up : (f d : ℕ) → f + d < length s.lengths → start s.lengths f ≤ start s.lengths (f + d)
  starts_up f zero l = let e : start s.lengths f ≡ start s.lengths (f + 0) = ap (start s.lengths) (let q : f ≡ f + 0 = omega arith in q) in omega arith
  starts_up f (suc d) l =
      let a = starts_up f d (omega arith) in
      let b = start_more s.lengths (f + d) (omega arith) in
      let e : start s.lengths (f + d + 1) ≡ start s.lengths (f + suc d) = ap (start s.lengths) (let q : f + d + 1 ≡ f + suc d = omega arith in q) in
      omega arith

  by_twice : (r : Result ℕ SkinFault) → (smallest (length s.lengths) (twice s) ≡ None → From 5 r) → From 4 (unless Twice (option_map (start s.lengths) (smallest (length s.lengths) (twice s))) r)
  unfolding unless
  by_twice r rest = go (smallest (length s.lengths) (twice s)) refl
    where
      go : (o : Option ℕ) → smallest (length s.lengths) (twice s) ≡ o → From 4 (unless Twice (option_map (start s.lengths) o) r)
      go (Some f) e =
          let l = some_is (twice s) (length s.lengths) f e in
          found 4 (Twice (start s.lengths f)) refl (f, l.below, refl, repeats f l.marked)
          (λ y w. ⊎_elim
          (λ (u : w.0 < f). absurd (both_ways (twice s w.0) (l.first w.0 u) (repeated w.0 w.3)))
          (λ (u : f ≤ w.0).
          let g = w.0 in
          let b : g < length s.lengths = w.1 in
          let d : f + (g - f) ≡ g = omega arith in
          let a : start s.lengths f ≤ start s.lengths g = subst (λ (x : ℕ). start s.lengths f ≤ start s.lengths x) d (starts_up f (g - f) (omega arith)) in
          let q : y ≡ start s.lengths g = w.2 in
          omega arith)
          (cases_lt w.0 f))
      go None e = next 4 r (λ x w. both_ways (twice s w.0) (none_below (twice s) (length s.lengths) e w.0 w.1) (repeated w.0 w.3)) (rest e)

  -- ---- all together

  lacking : (n : ℕ) → scant n p ≡ true → Lacks n p
  lacking n e = ⊎_elim (λ a. inl (ltb-true _ _ a)) (λ a. ⊎_elim (λ b. inr (inl (ltb-true _ _ b))) (λ b. ⊎_elim (λ c. inr (inr (inl (ltb-true _ _ c)))) (λ c. inr (inr (inr (ltb-true _ _ c))))
      (or_cases _ _ b)) (or_cases _ _ a)) (or_cases _ _ e)

  not_lacking : (n : ℕ) → scant n p ≡ false → Lacks n p → ⊥
  not_lacking n e w =
      let x = or_parts (ltb p.corners n) _ e in
      let y = or_parts (ltb p.next n) _ x.1 in
      let z = or_parts (ltb p.prev n) (ltb p.twin n) y.1 in
      let a = ltb-false p.corners n x.0 in
      let b = ltb-false p.next n y.0 in
      let c = ltb-false p.prev n z.0 in
      let d = ltb-false p.twin n z.1 in
      omega arith

  judged_told : From 3 (judged s (darts s))
  unfolding judged
  judged_told =
      by_smallest 3 Stray (λ x. refl) (λ x. refl) (λ x. refl) _ _ _ stray_means stray_marks (λ _.
      by_twice _ (λ _.
      by_smallest 5 Met (λ x. refl) (λ x. refl) (λ x. refl) _ _ _ met_means met_marks (λ new.
      by_smallest 6 Single (λ x. refl) (λ x. refl) (λ x. refl) _ _ _ single_means single_marks (λ paired.
      by_smallest 7 Bare (λ x. refl) (λ x. refl) (λ x. refl) _ _ _ bare_means bare_marks (λ _.
      by_smallest 8 Several (λ x. refl) (λ x. refl) (λ x. refl) _ _ _ (several_means new paired) several_marks (λ _.
      by_smallest 9 Crowded (λ x. refl) (λ x. refl) (λ x. refl) _ _ _ crowded_means crowded_marks (λ _.
      (refl, no_more))))))))
    where
      no_more : (y : SkinFault) → 10 ≤ rank y → Wrong s p y → ⊥
      no_more (Face f) l w = omega arith
      no_more TooMany l w = omega arith
      no_more (Short n) l w = omega arith
      no_more (Stray h) l w = omega arith
      no_more (Twice h) l w = omega arith
      no_more (Met h) l w = omega arith
      no_more (Single h) l w = omega arith
      no_more (Bare v) l w = omega arith
      no_more (Several v) l w = omega arith
      no_more (Crowded v) l w = omega arith
      no_more (Text e) l w = w

  short_told : From 2 (cond (scant (darts s) p) (Err (Short (darts s))) (judged s (darts s)))
  short_told = go (scant (darts s) p) refl
    where
      go : (b : Bool) → scant (darts s) p ≡ b → From 2 (cond b (Err (Short (darts s))) (judged s (darts s)))
      go true e = found 2 (Short (darts s)) refl (refl, lacking (darts s) e) (λ x w. let q : x ≡ darts s = w.0 in omega arith)
      go false e = next 2 _ (λ x w. not_lacking x (subst (λ (n : ℕ). scant n p ≡ false) (sym w.0) e) w.1) judged_told

  many_told : From 1 (cond (ltb 1048576 (darts s)) (Err TooMany) (cond (scant (darts s) p) (Err (Short (darts s))) (judged s (darts s))))
  many_told = go (ltb 1048576 (darts s)) refl
    where
      go : (b : Bool) → ltb 1048576 (darts s) ≡ b → From 1 (cond b (Err TooMany) (cond (scant (darts s) p) (Err (Short (darts s))) (judged s (darts s))))
      go true e = found 1 TooMany refl (ltb-true 1048576 (darts s) e) (λ x w. omega arith)
      go false e = next 1 _ (λ x w. let l = ltb-false 1048576 (darts s) e in let u : 1048576 < darts s = w in omega arith) short_told

  all_told : From 0 (verdict s p)
  unfolding verdict
  all_told = by_smallest 0 Face (λ x. refl) (λ x. refl) (λ x. refl) _ _ _ face_means face_marks (λ _. many_told)

  pub told_first : (r : Result ℕ SkinFault) → r ≡ verdict s p → Told s p r
  told_first r e = from_all r (subst (From 0) (sym e) all_told)
    where
      from_all : (r : Result ℕ SkinFault) → From 0 r → Told s p r
      from_all (Ok n) f = (f.0, λ y w. f.1 y (omega arith) w)
      from_all (Err y) f = (f.0, λ z w. f.1 z (omega arith) w)
