-- The rings share out all darts: their lengths total n.
use Rattle.std.proofs.Common.{◌≡◌, ℕ, zero, suc, ◌+◌, ◌-◌, ◌<◌, ◌≤◌, min, true, false, cond, ◌&&◌, eqb, ltb, length, sym, refl, ap, ◌∙◌, subst, ⊎_elim, arith}
use Rattle.std.proofs.lemmas.Bool.{cases_Bool, cases_eq, cases_lt, cond-true, cond-false, eq-eqb, ne_eqb, lt-ltb, le-ltb}
use Rattle.mesh.specs.Mesh.{ring, times, Short}
use Rattle.mesh.specs.Count.{sum, bit, leads}
use Rattle.mesh.proofs.Rings.{Keeps, Undoes, on_steps, times_add, times_keeps, times_undo, ring_same, ring_least}
use Rattle.mesh.proofs.Sums.{sum_same, sum_zero, sum_one, sum_swap, sum_point, sum_moved, Swaps}
use Rattle.writer.specs.Listing.{lead}
use Rattle.writer.proofs.Leaders.{lead_on, lead_same, lead_lead, lead_short, lead_leads, leads_lead}

-- the length of the ring of h where h leads it
abbrev pub led : (ℕ → ℕ) → ℕ → ℕ
led f h = cond (leads f h) (length (ring f h)) 0

-- how many of the numbers below n are below k
below_min : (k n : ℕ) → sum (λ i. bit (ltb i k)) n ≡ min k n
unfolding sum
below_min k zero = omega arith
below_min k (suc n) =
    let ih : sum (λ i. bit (ltb i k)) n ≡ min k n = below_min k n in
    ⊎_elim
    (λ l. ap (λ b. bit b + sum (λ i. bit (ltb i k)) n) (lt-ltb n k l) ∙ omega arith)
    (λ l. ap (λ b. bit b + sum (λ i. bit (ltb i k)) n) (le-ltb n k l) ∙ omega arith)
    (cases_lt n k)

-- two darts of a ring at different places are different
apart : (f : ℕ → ℕ) (h i j : ℕ) → length (ring f h) ≤ 64 → i < j → j < length (ring f h) → times i f h ≡ times j f h → ⊥
apart f h i j s l b e =
    let same : length (ring f (times i f h)) ≡ length (ring f h) = ring_same f h s i in
    ring_least f (times i f h) (j - i) (omega arith) (omega arith)
    (times_add (j - i) i f h ∙ ap (λ x. times x f h) (let q : j - i + i ≡ j = omega arith in q) ∙ sym e)

-- 1 where h leads a ring of more than i darts
abbrev mark : (ℕ → ℕ) → ℕ → ℕ → ℕ
mark f h i = bit (leads f h && ltb i (length (ring f h)))

marks : (f : ℕ → ℕ) (h : ℕ) → length (ring f h) ≤ 64 → led f h ≡ sum (mark f h) 64
marks f h s =
    ⊎_elim
    (λ t.
    cond-true (leads f h) (length (ring f h)) 0 t
    ∙ (let q : length (ring f h) ≡ min (length (ring f h)) 64 = omega arith in q)
    ∙ sym (below_min (length (ring f h)) 64)
    ∙ sum_same 64 _ _ (λ i l. sym (ap (λ b. bit (b && ltb i (length (ring f h)))) t)))
    (λ t.
    cond-false (leads f h) (length (ring f h)) 0 t
    ∙ sym (sum_zero 64)
    ∙ sum_same 64 _ _ (λ i l. sym (ap (λ b. bit (b && ltb i (length (ring f h)))) t)))
    (cases_Bool (leads f h))

-- a dart of the ring of h at another place than the smallest has no mark
unmarked : (f : ℕ → ℕ) (h i j : ℕ) → length (ring f h) ≤ 64 → j < length (ring f h) → times j f h ≡ lead f h → (i ≡ j → ⊥) → mark f (times i f h) i ≡ 0
unmarked f h i j s l e ne =
    let d = times i f h in
    let same : length (ring f d) ≡ length (ring f h) = ring_same f h s i in
    ⊎_elim
    (λ t. ⊎_elim
    (λ a.
    let m : times i f h ≡ times j f h = sym (leads_lead f d (omega arith) t) ∙ lead_same f h d s (on_steps f h s i) ∙ sym e in
    ⊎_elim
    (λ lt. absurd (apart f h i j s lt l m))
    (λ ge. absurd (apart f h j i s (omega arith) (omega arith) (sym m)))
    (cases_lt i j))
    (λ a. ap (λ b. bit (leads f d && b)) (le-ltb i (length (ring f d)) a) ∙ ap (λ b. bit (b && false)) t)
    (cases_lt i (length (ring f d))))
    (λ t. ap (λ b. bit (b && ltb i (length (ring f d)))) t)
    (cases_Bool (leads f d))

marked : (f : ℕ → ℕ) (h j : ℕ) → length (ring f h) ≤ 64 → j < length (ring f h) → times j f h ≡ lead f h → mark f (times j f h) j ≡ 1
marked f h j s l e =
    let d = times j f h in
    let same : length (ring f d) ≡ length (ring f h) = ring_same f h s j in
    let t : leads f d ≡ true = ap (leads f) e ∙ lead_leads f (lead f h) (lead_short f h s) (lead_lead f h s) in
    ap (λ b. bit (b && ltb j (length (ring f d)))) t ∙ ap (λ b. bit (true && b)) (lt-ltb j (length (ring f d)) (omega arith))

-- of the darts of one ring exactly one is marked
one_marked : (f : ℕ → ℕ) (h : ℕ) → length (ring f h) ≤ 64 → sum (λ i. mark f (times i f h) i) 64 ≡ 1
one_marked f h s =
    let o = lead_on f h s in
    let j = o.0 in
    let b : j < length (ring f h) = o.1 in
    sum_same 64 _ (λ i. cond (eqb i j) 1 0)
    (λ i l.
    ⊎_elim
    (λ (e : i ≡ j). subst (λ x. mark f (times x f h) x ≡ cond (eqb x j) 1 0) (sym e) (marked f h j s b o.2 ∙ sym (cond-true (eqb j j) 1 0 (eq-eqb j j refl))))
    (λ ne. unmarked f h i j s b o.2 ne ∙ sym (cond-false (eqb i j) 1 0 (ne_eqb i j ne)))
    (cases_eq i j))
    ∙ sum_point 64 j (λ _. 1) (omega arith)

module _ (n : ℕ) (f g : ℕ → ℕ) (keeps : Keeps n f) (keeps' : Keeps n g) (back : Undoes n g f) (on : Undoes n f g) (short : Short n f) where
  swaps : (i : ℕ) → Swaps n (times i f) (times i g)
  swaps i =
      record {
        there = times_keeps n f keeps i;
        back = times_keeps n g keeps' i;
        there_back = times_undo n g f keeps' on i;
        back_there = times_undo n f g keeps back i;
      }

  pub rings_all : sum (led f) n ≡ n
  rings_all =
      sum_same n _ _ (λ h b. marks f h (short h b)) ∙ sum_swap n 64 (mark f)
      ∙ sum_same 64 _ _ (λ i l. sum_moved n (λ h. mark f h i) (times i f) (times i g) (swaps i))
      ∙ sym (sum_swap n 64 (λ h i. mark f (times i f h) i))
      ∙ sum_same n _ _ (λ h b. one_marked f h (short h b)) ∙ sum_one n
