-- Each ring is counted exactly once, and there are as many classes of darts as rings counted.
use Rattle.std.proofs.Common.{◌≡◌, ℕ, zero, suc, ◌+◌, ◌<◌, ◌≤◌, true, length, sym, refl, ap, ◌∙◌, subst, ⊎_elim, arith}
use Rattle.std.proofs.lemmas.Bool.Decides.{leb_tells, eqb_tells}
use Rattle.mesh.specs.Mesh.{times, ring, Short}
use Rattle.mesh.specs.Count.{count, leads, rings, Once, Classes}
use Rattle.mesh.proofs.Rings.{Keeps, times_zero, times_add, times_keeps, on_steps, on_sym}
use Rattle.mesh.proofs.Leads.{decides_leads}
use Rattle.mesh.proofs.Ranks.{rank_below, rank_same, rank_every}

-- the smallest of the first darts
least : (f : ℕ → ℕ) (h k : ℕ) → (j : ℕ) × ((i : ℕ) → i < suc k → times j f h ≤ times i f h)
least f h zero = (0, λ i l. let e : i ≡ 0 = omega arith in omega (arith, ap (λ x. times x f h) e))
least f h (suc k) =
    let r = least f h k in
    ⊎_elim
    (λ t. (r.0, λ i l. ⊎_elim (λ q. omega (arith, t.1, ap (λ x. times x f h) q.1)) (λ q. r.1 i (omega (arith, q.1))) (eqb_tells i (suc k))))
    (λ t. (suc k, λ i l. ⊎_elim (λ q. omega (arith, ap (λ x. times x f h) q.1)) (λ q. omega (arith, t.1, r.1 i (omega (arith, q.1)))) (eqb_tells i (suc k))))
    (leb_tells (times r.0 f h) (times (suc k) f h))

module _ (n : ℕ) (f : ℕ → ℕ) (below : Keeps n f) (short : Short n f) where
  -- the smallest dart of the ring of h
  abbrev lead : ℕ → ℕ
  lead h = times (least f h (length (ring f h))).0 f h

  pub once : (h : ℕ) → h < n → Once f h
  once h l = record { lead = lead h; steps = (least f h (length (ring f h))).0; reached = refl; smallest = low; counted = yes'; only = alone }
    where
      j : ℕ
      j = (least f h (length (ring f h))).0

      x : ℕ
      x = lead h

      low : (k : ℕ) → x ≤ times k f h
      low k =
          let o = on_steps f h (short h l) k in
          subst (λ y. x ≤ y) o.2 ((least f h (length (ring f h))).1 o.0 (omega (arith, o.1)))

      yes' : leads f x ≡ true
      yes' =
          (decides_leads f x (short x (times_keeps n f below j h l))).1
          (λ k. subst (λ y. x ≤ y) (sym (times_add k j f h)) (low (k + j)))

      alone : (k : ℕ) → leads f (times k f h) ≡ true → times k f h ≡ x
      alone k e =
          let y = times k f h in
          let o = on_sym f h y (short h l) (on_steps f h (short h l) k) in
          let a = (decides_leads f y (short y (times_keeps n f below k h l))).0 e (j + o.0) in
          let q : times (j + o.0) f y ≡ x = sym (times_add j o.0 f y) ∙ ap (times j f) o.2 in
          omega (arith, a, q, low k)

  -- a class is numbered by how many leading darts stand below its own
  pub classes : Classes n f (rings f n)
  unfolding once
  classes = record { number = number; below = low; together = same; joined = meet; every = all }
    where
      number : ℕ → ℕ
      number h = count (leads f) (lead h)

      led : (h : ℕ) → h < n → lead h < n
      led h l = times_keeps n f below (once h l).steps h l

      low : (h : ℕ) → h < n → number h < rings f n
      low h l = rank_below (leads f) (lead h) n (once h l).counted (led h l)

      same : (h i : ℕ) → h < n → number (times i f h) ≡ number h
      same h i l =
          let d = once (times i f h) (times_keeps n f below i h l) in
          let e : times (d.steps + i) f h ≡ lead (times i f h) = sym (times_add d.steps i f h) in
          let t : leads f (times (d.steps + i) f h) ≡ true = ap (leads f) e ∙ d.counted in
          ap (count (leads f)) (sym e ∙ (once h l).only (d.steps + i) t)

      meet : (h d : ℕ) → h < n → d < n → number h ≡ number d → (i : ℕ) × (times i f h ≡ d)
      meet h d l k e =
          let q : lead h ≡ lead d = rank_same (leads f) (lead h) (lead d) (once h l).counted (once d k).counted e in
          let o = on_sym f d (lead d) (short d k) (on_steps f d (short d k) (once d k).steps) in
          (o.0 + (once h l).steps, sym (times_add o.0 (once h l).steps f h) ∙ ap (times o.0 f) q ∙ o.2)

      all : (x : ℕ) → x < rings f n → (h : ℕ) × (h < n) × (number h ≡ x)
      all x l =
          let r = rank_every (leads f) n x l in
          let h = r.0 in
          let own : h ≡ lead h = sym (times_zero f h) ∙ (once h r.1).only 0 (ap (leads f) (times_zero f h) ∙ r.2) in
          (h, r.1, ap (count (leads f)) (sym own) ∙ r.3)
