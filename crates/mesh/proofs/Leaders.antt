-- The darts that lead their rings, one by one.
use Rattle.std.proofs.Common.{◌≡◌, ℕ, zero, suc, ◌+◌, ◌-◌, ◌<◌, ◌≤◌, Bool, true, false, cond, [], ◌∷◌, ◌++◌, length, Some, None, Option, MatchOption, filter, sym, refl, ap, ◌∙◌, subst, ⊎_elim, map-id, add-one, arith}
use Rattle.std.specs.List.{range_with_len}
use Rattle.std.proofs.lemmas.List.{append-nil, length_push}
use Rattle.std.proofs.lemmas.Bool.{cases_Bool, cases_eq, cond-true, cond-false}
use Rattle.std.proofs.lemmas.List.FromFn.{filter_of_map_range_with_len_more}
use Rattle.mesh.specs.Count.{leads, rings, leaders, leaders_from, Leader}
use Rattle.mesh.proofs.Leads.{count_none, count_yes, count_no}

pub leaders_none : (f : ℕ → ℕ) → leaders f 0 ≡ []
unfolding leaders
leaders_none f = refl

leaders_more : (f : ℕ → ℕ) (h : ℕ) → leaders f (h + 1) ≡ leaders f h ++ cond (leads f h) (h ∷ []) []
unfolding leaders
leaders_more f h =
    ap (filter (leads f)) (sym (map-id (range_with_len 0 (h + 1))))
    ∙ filter_of_map_range_with_len_more (leads f) (λ x. x) 0 h h (omega arith)
    ∙ ap (λ x. filter (leads f) x ++ cond (leads f h) (h ∷ []) []) (map-id (range_with_len 0 h))

pub leaders_yes : (f : ℕ → ℕ) (h : ℕ) → leads f h ≡ true → leaders f (h + 1) ≡ leaders f h ++ h ∷ []
leaders_yes f h e = leaders_more f h ∙ ap (λ x. leaders f h ++ x) (cond-true (leads f h) (h ∷ []) [] e)

pub leaders_no : (f : ℕ → ℕ) (h : ℕ) → leads f h ≡ false → leaders f (h + 1) ≡ leaders f h
leaders_no f h e = leaders_more f h ∙ ap (λ x. leaders f h ++ x) (cond-false (leads f h) (h ∷ []) [] e) ∙ append-nil (leaders f h)

-- there are as many as rings
pub leaders_count : (f : ℕ → ℕ) (n : ℕ) → length (leaders f n) ≡ rings f n
leaders_count f zero = ap length (leaders_none f) ∙ count_none (leads f)
leaders_count f (suc n) =
    let i = leaders_count f n in
    subst (λ x. length (leaders f x) ≡ rings f x) (add-one n)
    (⊎_elim
    (λ e. ap length (leaders_yes f n e) ∙ length_push (leaders f n) n ∙ count_yes (leads f) n (length (leaders f n)) i e)
    (λ e. ap length (leaders_no f n e) ∙ count_no (leads f) n (length (leaders f n)) i e)
    (cases_Bool (leads f n)))

pub leaders_whole : (f : ℕ → ℕ) (n : ℕ) → leaders_from f n 0 ≡ leaders f n
unfolding leaders leaders_from
leaders_whole f n = ap (λ x. filter (leads f) (range_with_len 0 x)) (let e : n - 0 ≡ n = omega arith in e)

-- of k numbers from a on none passes
kept_none : (p : ℕ → Bool) (a k : ℕ) → ((i : ℕ) → a ≤ i → i < a + k → p i ≡ false) → filter p (range_with_len a k) ≡ []
kept_none p a zero no' = refl
kept_none p a (suc k) no' =
    cond-false (p a) (a ∷ filter p (range_with_len (a + 1) k)) (filter p (range_with_len (a + 1) k)) (no' a (omega arith) (omega arith))
    ∙ kept_none p (a + 1) k (λ i l r. no' i (omega arith) (omega arith))

-- or h is the first that does
kept_first : (p : ℕ → Bool) (a k h : ℕ) → a ≤ h → h < a + k → p h ≡ true → ((i : ℕ) → a ≤ i → i < h → p i ≡ false) →
    filter p (range_with_len a k) ≡ h ∷ filter p (range_with_len (h + 1) (a + k - (h + 1)))
kept_first p a zero h l r t no' = absurd (omega arith)
kept_first p a (suc k) h l r t no' =
    let rest = filter p (range_with_len (a + 1) k) in
    ⊎_elim
    (λ (e : a ≡ h).
    cond-true (p a) (a ∷ rest) rest (ap p e ∙ t)
    ∙ ap (λ x. x ∷ rest) e
    ∙ ap (λ x. h ∷ filter p (range_with_len (x + 1) k)) e
    ∙ ap (λ x. h ∷ filter p (range_with_len (h + 1) x)) (let q : k ≡ a + suc k - (h + 1) = omega arith in q))
    (λ (ne : a ≡ h → ⊥).
    cond-false (p a) (a ∷ rest) rest (no' a (omega arith) (omega arith))
    ∙ kept_first p (a + 1) k h (omega arith) (omega arith) t (λ i m s. no' i (omega arith) s)
    ∙ ap (λ x. h ∷ filter p (range_with_len (h + 1) (x - (h + 1)))) (let q : a + 1 + k ≡ a + suc k = omega arith in q))
    (cases_eq a h)

-- what a search from a on finds: the first of them, or that there is none
pub leaders_found : (f : ℕ → ℕ) (n a : ℕ) (o : Option ℕ) →
    MatchOption o ((i : ℕ) → a ≤ i → i < n → leads f i ≡ false) (λ h. (a ≤ h) × (h < n) × (leads f h ≡ true) × ((i : ℕ) → a ≤ i → i < h → leads f i ≡ false)) →
    Leader f n a o
unfolding leaders_from
leaders_found f n a None q = kept_none (leads f) a (n - a) (λ i l r. q i l (omega arith))
leaders_found f n a (Some h) q =
    let l : a ≤ h = q.0 in
    let r : h < n = q.1 in
    let e : a + (n - a) ≡ n = omega arith in
    (r, kept_first (leads f) a (n - a) h l (omega arith) q.2 q.3 ∙ ap (λ x. h ∷ filter (leads f) (range_with_len (h + 1) (x - (h + 1)))) e)
