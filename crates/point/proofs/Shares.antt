-- The weights of a mean are the only ones that share its totals so.
use Rattle.std.proofs.Common.{◌≡◌, ℕ, suc, ◌<◌, ◌⊎◌, List, [], ◌∷◌, length, ℤ, pos, ◌+ℤ◌, ◌-ℤ◌, ◌*ℤ◌, ◌≤ℤ◌, ◌<ℤ◌, sym, refl, ◌∙◌, ap₂, ⊎_elim, arith}
use borrow.Author.Differences.{ints}
use Rattle.point.specs.Points.{coordinate, total}
use Rattle.point.specs.Dealing.{Down, Raised, Shares}
use Rattle.point.specs.Whole.{times_lt_out}

-- ---- one weight
abbrev Way : ℕ → ℤ → ℤ → Type 0
Way k t w = Down k t w ⊎ Raised k t w

module _ (k : ℕ) (t w v : ℤ) where
  down_least : Down k t w → Way k t v → w ≤ℤ v
  down_least d e =
      ⊎_elim
      (λ x.
      let l : (pos k *ℤ w) <ℤ (pos k *ℤ (v +ℤ pos 1)) = omega (arith, ints, d.0, x.1) in
      let o : w ≤ℤ v = omega (arith, ints, times_lt_out k w (v +ℤ pos 1) l) in
      o)
      (λ x.
      let l : (pos k *ℤ w) <ℤ (pos k *ℤ v) = omega (arith, ints, d.0, x.1) in
      let o : w ≤ℤ v = omega (arith, ints, times_lt_out k w v l) in
      o)
      e

  raised_least : Raised k t w → Raised k t v → w ≤ℤ v
  raised_least d e =
      let l : (pos k *ℤ (w -ℤ pos 1)) <ℤ (pos k *ℤ v) = omega (arith, ints, d.0, e.1) in
      omega (arith, ints, times_lt_out k (w -ℤ pos 1) v l)

  -- one weight down and the other raised
  apart : Down k t w → Raised k t v → w <ℤ v
  apart d e =
      let l : (pos k *ℤ w) <ℤ (pos k *ℤ v) = omega (arith, ints, d.0, e.1) in
      times_lt_out k w v l

  -- a weight that is down where another is raised is below its mean
  below_mean : Down k t w → Raised k t v → t ≤ℤ (pos k *ℤ w) → ⊥
  below_mean d e f =
      let l : (pos k *ℤ (v -ℤ pos 1)) <ℤ (pos k *ℤ w) = omega (arith, ints, e.0, f) in
      omega (arith, ints, times_lt_out k (v -ℤ pos 1) w l, apart d e)

-- ---- all of them
total_least : (ts ws vs : List ℤ) → length ws ≡ length ts → length vs ≡ length ts → ((i : ℕ) → i < length ts → coordinate ws i ≤ℤ coordinate vs i) → total ws ≤ℤ total vs
total_least [] [] [] l m h = omega (arith, ints)
total_least [] [] (v ∷ vs) l m h = absurd (omega arith)
total_least [] (w ∷ ws) vs l m h = absurd (omega arith)
total_least (t ∷ ts) [] vs l m h = absurd (omega arith)
total_least (t ∷ ts) (w ∷ ws) [] l m h = absurd (omega arith)
total_least (t ∷ ts) (w ∷ ws) (v ∷ vs) l m h = omega (arith, ints, h 0 (omega arith), total_least ts ws vs (omega arith) (omega arith) (λ i f. h (suc i) (omega arith)))

-- what `Shares` says but for the total
abbrev Ways : ℕ → List ℤ → List ℤ → Type 0
Ways k ts ws = (i : ℕ) → i < length ts → Way k (coordinate ts i) (coordinate ws i)

abbrev First : ℕ → List ℤ → List ℤ → Type 0
First k ts ws = (i j : ℕ) → j < i → i < length ts → Raised k (coordinate ts i) (coordinate ws i) → coordinate ts j ≤ℤ (pos k *ℤ coordinate ws j)

-- with the first weight down where the other is raised, the totals differ
never : (k : ℕ) (t w v : ℤ) (ts ws vs : List ℤ) → length ws ≡ length ts → length vs ≡ length ts → Ways k (t ∷ ts) (w ∷ ws) → First k (t ∷ ts) (w ∷ ws) → Ways k (t ∷ ts) (v ∷ vs) → Down k t w → Raised k t v → total (w ∷ ws) ≡ total (v ∷ vs) → ⊥
never k t w v ts ws vs l m a f b d e q =
    let rest : total ws ≤ℤ total vs = total_least ts ws vs l m (λ i h.
    ⊎_elim
    (λ x. down_least k (coordinate ts i) (coordinate ws i) (coordinate vs i) x (b (suc i) (omega arith)))
    (λ x. absurd (below_mean k t w v d e (f (suc i) 0 (omega arith) (omega arith) x)))
    (a (suc i) (omega arith))) in
    omega (arith, ints, rest, apart k t w v d e, q)

heads : (k : ℕ) (t w v : ℤ) (ts ws vs : List ℤ) → length ws ≡ length ts → length vs ≡ length ts → Ways k (t ∷ ts) (w ∷ ws) → First k (t ∷ ts) (w ∷ ws) → Ways k (t ∷ ts) (v ∷ vs) → First k (t ∷ ts) (v ∷ vs) → total (w ∷ ws) ≡ total (v ∷ vs) → w ≡ v
heads k t w v ts ws vs l m a f b g q =
    ⊎_elim
    (λ x. ⊎_elim
    (λ y. let o : w ≡ v = omega (arith, ints, down_least k t w v x (b 0 (omega arith)), down_least k t v w y (a 0 (omega arith))) in o)
    (λ y. absurd (never k t w v ts ws vs l m a f b x y q))
    (b 0 (omega arith)))
    (λ x. ⊎_elim
    (λ y. absurd (never k t v w ts vs ws m l b g a y x (sym q)))
    (λ y. let o : w ≡ v = omega (arith, ints, raised_least k t w v x y, raised_least k t v w y x) in o)
    (b 0 (omega arith)))
    (a 0 (omega arith))

alone : (k : ℕ) (ts ws vs : List ℤ) → length ws ≡ length ts → length vs ≡ length ts → Ways k ts ws → First k ts ws → Ways k ts vs → First k ts vs → total ws ≡ total vs → ws ≡ vs
alone k [] [] [] l m a f b g q = refl
alone k [] [] (v ∷ vs) l m a f b g q = absurd (omega arith)
alone k [] (w ∷ ws) vs l m a f b g q = absurd (omega arith)
alone k (t ∷ ts) [] vs l m a f b g q = absurd (omega arith)
alone k (t ∷ ts) (w ∷ ws) [] l m a f b g q = absurd (omega arith)
alone k (t ∷ ts) (w ∷ ws) (v ∷ vs) l m a f b g q =
    let l' : length ws ≡ length ts = omega arith in
    let m' : length vs ≡ length ts = omega arith in
    let e : w ≡ v = heads k t w v ts ws vs l' m' a f b g q in
    let r : total ws ≡ total vs = omega (arith, ints) in
    ap₂ ◌∷◌ e (alone k ts ws vs l' m' (λ i h. a (suc i) (omega arith)) (λ i j h n x. f (suc i) (suc j) (omega arith) (omega arith) x) (λ i h. b (suc i) (omega arith)) (λ i j h n x. g (suc i) (suc j) (omega arith) (omega arith) x) r)

pub shares_alone : (k : ℕ) (ts ws vs : List ℤ) → length ws ≡ length ts → length vs ≡ length ts → Shares k ts ws → Shares k ts vs → ws ≡ vs
shares_alone k ts ws vs l m a b = alone k ts ws vs l m a.each a.first b.each b.first (a.whole ∙ sym b.whole)
