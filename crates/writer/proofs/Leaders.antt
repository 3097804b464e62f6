-- The smallest dart of a ring.
use Rattle.std.proofs.Common.{◌≡◌, ℕ, zero, suc, ◌+◌, ◌<◌, ◌≤◌, min, true, false, ◌⊎◌, List, [], ◌∷◌, ◌++◌, length, get_or, sym, refl, ap, ◌∙◌, subst, inl, inr, ⊎_elim, add-one, arith}
use Rattle.std.proofs.lemmas.List.{length_push, get_or_push, get_or_append_left}
use Rattle.std.proofs.lemmas.Bool.{cases_Bool, cases_eq, cases_lt, true≢false}
use Rattle.mesh.specs.Mesh.{times, ring, Short}
use Rattle.mesh.specs.Count.{leads, rings, leaders}
use Rattle.mesh.proofs.Rings.{On, on_steps, on_trans, on_sym, times_zero, ring_at, ring_same}
use Rattle.mesh.proofs.Leads.{decides_leads}
use Rattle.mesh.proofs.Leaders.{leaders_yes, leaders_no, leaders_count}
use Rattle.writer.specs.Listing.{least, lead}

least_start : (a : ℕ) (xs : List ℕ) → least a xs ≤ a
unfolding least
least_start a [] = omega arith
least_start a (x ∷ xs) = omega (arith, least_start (min a x) xs)

least_le : (a : ℕ) (xs : List ℕ) (i : ℕ) → i < length xs → least a xs ≤ get_or xs i 0
unfolding least
least_le a [] i b = absurd (omega arith)
least_le a (x ∷ xs) zero b = omega (arith, least_start (min a x) xs)
least_le a (x ∷ xs) (suc i) b = least_le (min a x) xs i (omega arith)

least_in : (a : ℕ) (xs : List ℕ) → (least a xs ≡ a) ⊎ ((i : ℕ) × (i < length xs) × (get_or xs i 0 ≡ least a xs))
unfolding least
least_in a [] = inl refl
least_in a (x ∷ xs) =
    ⊎_elim
    (λ e. ⊎_elim
    (λ lt. inl (e ∙ (let q : min a x ≡ a = omega arith in q)))
    (λ le. inr (0, (let q : 0 < suc (length xs) = omega arith in q), (let q : x ≡ min a x = omega arith in q) ∙ sym e))
    (cases_lt a x))
    (λ o. inr (suc o.0, (let b : o.0 < length xs = o.1 in let q : suc o.0 < suc (length xs) = omega arith in q), o.2))
    (least_in (min a x) xs)

-- the smallest dart is on the ring
pub lead_on : (f : ℕ → ℕ) (h : ℕ) → length (ring f h) ≤ 64 → On f h (lead f h)
unfolding lead
lead_on f h s =
    ⊎_elim
    (λ e. subst (On f h) (times_zero f h ∙ sym e) (on_steps f h s 0))
    (λ o. (o.0, o.1, sym (ring_at f h o.0 o.1) ∙ o.2))
    (least_in h (ring f h))

-- and none of the ring is smaller
lead_le : (f : ℕ → ℕ) (h d : ℕ) → On f h d → lead f h ≤ d
unfolding lead
lead_le f h d o = subst (λ x. least h (ring f h) ≤ x) (ring_at f h o.0 o.1 ∙ o.2) (least_le h (ring f h) o.0 o.1)

pub lead_lowest : (f : ℕ → ℕ) (h : ℕ) → length (ring f h) ≤ 64 → (k : ℕ) → lead f h ≤ times k f h
lead_lowest f h s k = lead_le f h (times k f h) (on_steps f h s k)

pub lead_down : (f : ℕ → ℕ) (h : ℕ) → length (ring f h) ≤ 64 → lead f h ≤ h
lead_down f h s = subst (λ x. lead f h ≤ x) (times_zero f h) (lead_lowest f h s 0)

-- all darts of a ring have the same smallest dart
pub lead_same : (f : ℕ → ℕ) (h d : ℕ) → length (ring f h) ≤ 64 → On f h d → lead f d ≡ lead f h
lead_same f h d s o =
    let e : length (ring f d) ≡ length (ring f h) = ap (λ x. length (ring f x)) (sym o.2) ∙ ring_same f h s o.0 in
    let t : length (ring f d) ≤ 64 = omega arith in
    let a : lead f h ≤ lead f d = lead_le f h (lead f d) (on_trans f h d (lead f d) s o (lead_on f d t)) in
    let b : lead f d ≤ lead f h = lead_le f d (lead f h) (on_trans f d h (lead f h) t (on_sym f h d s o) (lead_on f h s)) in
    omega arith

pub lead_lead : (f : ℕ → ℕ) (h : ℕ) → length (ring f h) ≤ 64 → lead f (lead f h) ≡ lead f h
lead_lead f h s = lead_same f h (lead f h) s (lead_on f h s)

-- a dart leads its ring exactly if it is the smallest
pub leads_lead : (f : ℕ → ℕ) (h : ℕ) → length (ring f h) ≤ 64 → leads f h ≡ true → lead f h ≡ h
leads_lead f h s e =
    let o = lead_on f h s in
    let a : h ≤ times o.0 f h = (decides_leads f h s).0 e o.0 in
    omega (arith, o.2, lead_down f h s)

pub lead_leads : (f : ℕ → ℕ) (h : ℕ) → length (ring f h) ≤ 64 → lead f h ≡ h → leads f h ≡ true
lead_leads f h s e = (decides_leads f h s).1 (λ k. omega (arith, lead_lowest f h s k))

pub lead_follows : (f : ℕ → ℕ) (h : ℕ) → length (ring f h) ≤ 64 → leads f h ≡ false → (lead f h ≡ h → ⊥)
lead_follows f h s e q = true≢false (sym (lead_leads f h s q) ∙ e)

pub lead_short : (f : ℕ → ℕ) (h : ℕ) → length (ring f h) ≤ 64 → length (ring f (lead f h)) ≤ 64
lead_short f h s =
    let o = lead_on f h s in
    let e : length (ring f (lead f h)) ≡ length (ring f h) = ap (λ x. length (ring f x)) (sym o.2) ∙ ring_same f h s o.0 in
    omega arith

-- a dart that leads stands in the list, after those before it
pub record At (f : ℕ → ℕ) (n h : ℕ) : Type 0 where
  pub inside : rings f h < length (leaders f n)
  pub here : get_or (leaders f n) (rings f h) 0 ≡ h

pub leaders_at : (f : ℕ → ℕ) (h : ℕ) → leads f h ≡ true → (n : ℕ) → h < n → At f n h
leaders_at f h e zero b = absurd (omega arith)
leaders_at f h e (suc n) b =
    subst (λ x. At f x h) (add-one n)
    (⊎_elim
    (λ (q : h ≡ n).
    let y : leaders f (n + 1) ≡ leaders f n ++ n ∷ [] = leaders_yes f n (ap (leads f) (sym q) ∙ e) in
    let l : length (leaders f n) ≡ rings f h = leaders_count f n ∙ ap (rings f) (sym q) in
    record {
      inside = omega (arith, ap length y, length_push (leaders f n) n);
      here = ap (λ x. get_or x (rings f h) 0) y ∙ get_or_push (leaders f n) n 0 (rings f h) l ∙ sym q;
    })
    (λ ne.
    let i = leaders_at f h e n (omega arith) in
    ⊎_elim
    (λ t.
    let y = leaders_yes f n t in
    record {
      inside = omega (arith, ap length y, length_push (leaders f n) n, i.inside);
      here = ap (λ x. get_or x (rings f h) 0) y ∙ get_or_append_left (leaders f n) (n ∷ []) 0 (rings f h) i.inside ∙ i.here;
    })
    (λ t.
    let y = leaders_no f n t in
    record {
      inside = omega (arith, ap length y, i.inside);
      here = ap (λ x. get_or x (rings f h) 0) y ∙ i.here;
    })
    (cases_Bool (leads f n)))
    (cases_eq h n))

-- the smallest dart of the ring of h stands in the list
pub lead_at : (f : ℕ → ℕ) (n h : ℕ) → Short n f → h < n → At f n (lead f h)
lead_at f n h s b =
    leaders_at f (lead f h) (lead_leads f (lead f h) (lead_short f h (s h b)) (lead_lead f h (s h b))) n (omega (arith, lead_down f h (s h b)))
