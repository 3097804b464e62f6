-- The smallest of those elements of a list that are like the element before them.
use Rattle.std.proofs.Common.{◌≡◌, ℕ, suc, zero, ◌<◌, ◌≤◌, Bool, true, false, cond, min, ◌⊎◌, List, [], ◌∷◌, map, length, get_or, drop, Some, None, Option, sym, refl, ap, ◌∙◌, subst, inl, inr, ⊎_elim, arith}
use Rattle.std.specs.List.{filter, zip, fold, reduce}
use Rattle.std.proofs.lemmas.Bool.{cases_lt, cases_Bool, false≢true}

module _ (same : ℕ × ℕ → Bool) where
  abbrev pub like_last : List ℕ → List ℕ
  like_last xs = map (λ p. p.1) (filter same (zip xs (drop 1 xs)))

  -- the element behind k is like that at k
  abbrev pub Like : List ℕ → ℕ → Type 0
  Like xs k = (suc k < length xs) × (same (get_or xs k 0, get_or xs (suc k) 0) ≡ true)

  record Low (xs : List ℕ) (b r : ℕ) : Type 0 where
    pub under : r ≤ b
    pub each : (k : ℕ) → Like xs k → r ≤ get_or xs (suc k) 0
    pub one : (r ≡ b) ⊎ ((k : ℕ) × Like xs k × (r ≡ get_or xs (suc k) 0))

  low : (xs : List ℕ) (b : ℕ) → Low xs b (fold min b (like_last xs))
  low [] b = record { under = omega arith; each = λ k l. absurd (let z = l.0 in omega arith); one = inl refl }
  low (a ∷ []) b = record { under = omega arith; each = λ k l. absurd (let z = l.0 in omega arith); one = inl refl }
  low (a ∷ (c ∷ r)) b = ⊎_elim
      (λ (t : same (a, c) ≡ true).
      let l = low (c ∷ r) (min b c) in
      let u = l.under in
      subst (λ (x : List (ℕ × ℕ)). Low (a ∷ (c ∷ r)) b (fold min b (map (λ p. p.1) x)))
      (sym (ap (λ (y : Bool). cond y ((a, c) ∷ filter same (zip (c ∷ r) r)) (filter same (zip (c ∷ r) r))) t))
      (record {
        under = omega arith;
        each = λ k m. shifted c r a _ (omega arith) l.each k m;
        one = ⊎_elim (λ e. ⊎_elim (λ (q : b < c). inl (let z : fold min (min b c) (like_last (c ∷ r)) ≡ b = omega arith in z))
            (λ (q : c ≤ b). inr (0, (omega arith, t), (let z : fold min (min b c) (like_last (c ∷ r)) ≡ c = omega arith in z))) (cases_lt b c))
            (λ o. inr (suc o.0, (let z = o.1.0 in omega arith, o.1.1), o.2)) l.one;
      }))
      (λ (t : same (a, c) ≡ false).
      let l = low (c ∷ r) b in
      subst (λ (x : List (ℕ × ℕ)). Low (a ∷ (c ∷ r)) b (fold min b (map (λ p. p.1) x)))
      (sym (ap (λ (y : Bool). cond y ((a, c) ∷ filter same (zip (c ∷ r) r)) (filter same (zip (c ∷ r) r))) t))
      (record {
        under = l.under;
        each = λ k m. unlike a c r t _ l.each k m;
        one = ⊎_elim (λ e. inl e) (λ o. inr (suc o.0, (let z = o.1.0 in omega arith, o.1.1), o.2)) l.one;
      }))
      (cases_Bool (same (a, c)))
    where
      shifted : (c : ℕ) (r : List ℕ) (a v : ℕ) → v ≤ c → ((k : ℕ) → Like (c ∷ r) k → v ≤ get_or (c ∷ r) (suc k) 0) → (k : ℕ) → Like (a ∷ (c ∷ r)) k → v ≤ get_or (a ∷ (c ∷ r)) (suc k) 0
      shifted c r a v u f zero m = u
      shifted c r a v u f (suc k) m = f k (let z = m.0 in omega arith, m.1)

      unlike : (a c : ℕ) (r : List ℕ) → same (a, c) ≡ false → (v : ℕ) → ((k : ℕ) → Like (c ∷ r) k → v ≤ get_or (c ∷ r) (suc k) 0) → (k : ℕ) → Like (a ∷ (c ∷ r)) k → v ≤ get_or (a ∷ (c ∷ r)) (suc k) 0
      unlike a c r t v f zero m = absurd (false≢true (sym t ∙ m.1))
      unlike a c r t v f (suc k) m = f k (let z = m.0 in omega arith, m.1)

  -- what the smallest is, and where there is none
  abbrev pub Lowest : List ℕ → Option ℕ → Type 0
  Lowest xs (Some m) = ((k : ℕ) × Like xs k × (m ≡ get_or xs (suc k) 0)) × ((k : ℕ) → Like xs k → m ≤ get_or xs (suc k) 0)
  Lowest xs None = (k : ℕ) → Like xs k → ⊥

  pub lowest : (xs : List ℕ) → Lowest xs (reduce min (like_last xs))
  lowest [] = λ k l. let z = l.0 in omega arith
  lowest (a ∷ []) = λ k l. let z = l.0 in omega arith
  lowest (a ∷ (c ∷ r)) = ⊎_elim
      (λ (t : same (a, c) ≡ true).
      let l = low (c ∷ r) c in
      subst (λ (x : List (ℕ × ℕ)). Lowest (a ∷ (c ∷ r)) (reduce min (map (λ p. p.1) x)))
      (sym (ap (λ (y : Bool). cond y ((a, c) ∷ filter same (zip (c ∷ r) r)) (filter same (zip (c ∷ r) r))) t)) (
        ⊎_elim (λ e. (0, (omega arith, t), e)) (λ o. (suc o.0, (let z = o.1.0 in omega arith, o.1.1), o.2)) l.one,
        λ k m. first c r a _ l.under l.each k m,
      ))
      (λ (t : same (a, c) ≡ false).
      subst (λ (x : List (ℕ × ℕ)). Lowest (a ∷ (c ∷ r)) (reduce min (map (λ p. p.1) x)))
      (sym (ap (λ (y : Bool). cond y ((a, c) ∷ filter same (zip (c ∷ r) r)) (filter same (zip (c ∷ r) r))) t))
      (behind t (reduce min (like_last (c ∷ r))) (lowest (c ∷ r))))
      (cases_Bool (same (a, c)))
    where
      first : (c : ℕ) (r : List ℕ) (a v : ℕ) → v ≤ c → ((k : ℕ) → Like (c ∷ r) k → v ≤ get_or (c ∷ r) (suc k) 0) → (k : ℕ) → Like (a ∷ (c ∷ r)) k → v ≤ get_or (a ∷ (c ∷ r)) (suc k) 0
      first c r a v u f zero m = u
      first c r a v u f (suc k) m = f k (let z = m.0 in omega arith, m.1)

      behind : same (a, c) ≡ false → (o : Option ℕ) → Lowest (c ∷ r) o → Lowest (a ∷ (c ∷ r)) o
      behind t (Some m) l = ((suc l.0.0, (let z = l.0.1.0 in omega arith, l.0.1.1), l.0.2), λ k m'. at k m')
        where
          at : (k : ℕ) → Like (a ∷ (c ∷ r)) k → m ≤ get_or (a ∷ (c ∷ r)) (suc k) 0
          at zero m' = absurd (false≢true (sym t ∙ m'.1))
          at (suc k) m' = l.1 k (let z = m'.0 in omega arith, m'.1)
      behind t None l = at
        where
          at : (k : ℕ) → Like (a ∷ (c ∷ r)) k → ⊥
          at zero m' = absurd (false≢true (sym t ∙ m'.1))
          at (suc k) m' = l k (let z = m'.0 in omega arith, m'.1)
