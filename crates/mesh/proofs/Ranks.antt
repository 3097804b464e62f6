-- The rank of a marked number: how many marked ones stand below it.
use Rattle.std.proofs.Common.{◌≡◌, ℕ, zero, suc, ◌+◌, ◌<◌, ◌≤◌, Bool, true, false, sym, refl, ap, ◌∙◌, ⊎_elim, add-one, arith}
use Rattle.std.proofs.lemmas.Bool.{cases_eq, cases_lt}
use Rattle.mesh.specs.Count.{count, bit}
use Rattle.mesh.proofs.Leads.{count_none, count_more}

module _ (p : ℕ → Bool) where
  step : (i : ℕ) → count p (suc i) ≡ bit (p i) + count p i
  step i = ap (count p) (sym (add-one i)) ∙ count_more p i

  rank_up : (a b : ℕ) → a ≤ b → count p a ≤ count p b
  rank_up a zero l = let e : a ≡ 0 = omega arith in omega (arith, ap (count p) e)
  rank_up a (suc b) l =
      ⊎_elim (λ (e : a ≡ suc b). omega (arith, ap (count p) e)) (λ e. omega (arith, rank_up a b (omega arith), step b)) (cases_eq a (suc b))

  pub rank_below : (x n : ℕ) → p x ≡ true → x < n → count p x < count p n
  rank_below x n t l = omega (arith, rank_up (suc x) n (omega arith), step x, ap bit t)

  pub rank_same : (x y : ℕ) → p x ≡ true → p y ≡ true → count p x ≡ count p y → x ≡ y
  rank_same x y s t e =
      ⊎_elim (λ l. absurd (omega (arith, rank_below x y s l)))
      (λ l. ⊎_elim (λ k. absurd (omega (arith, rank_below y x t k))) (λ k. omega arith) (cases_lt y x))
      (cases_lt x y)

  -- each rank is some marked number's
  pub rank_every : (n i : ℕ) → i < count p n → (x : ℕ) × (x < n) × (p x ≡ true) × (count p x ≡ i)
  rank_every zero i l = absurd (omega (arith, count_none p))
  rank_every (suc n) i l =
      ⊎_elim (λ (k : i < count p n). let r = rank_every n i k in (r.0, omega (arith, r.1), r.2, r.3)) (λ (k : count p n ≤ i). last (p n) refl k) (cases_lt i (count p n))
    where
      last : (b : Bool) → p n ≡ b → count p n ≤ i → (x : ℕ) × (x < suc n) × (p x ≡ true) × (count p x ≡ i)
      last true e k = (n, omega arith, e, omega (arith, step n, ap bit e))
      last false e k = absurd (omega (arith, step n, ap bit e))
