-- Lists of points, their totals, and the common denominator.
use Rattle.std.proofs.Common.{◌≡◌, ℕ, zero, suc, ◌+◌, ◌*◌, ◌/◌, ◌<◌, ◌≤◌, Bool, true, cond, eqb, ltb, ◌⊎◌, List, [], ◌∷◌, map, length, get_or, ℤ, pos, ◌+ℤ◌, ◌*ℤ◌, sym, refl, ap, ◌∙◌, subst, ap₂, inl, inr, mul_assoc, mul_comm, mul-div_cancel, add-one, arith}
use lib.IntN.{+ℤ_comm, +ℤ_assoc, +ℤ_idl, +ℤ_idr}
use Rattle.std.specs.List.{range_with_len}
use Rattle.std.proofs.lemmas.Simd.{map-map}
use Rattle.std.proofs.lemmas.List.FromFn.{get_or-map-range_with_len, length-map-range_with_len}
use Rattle.std.proofs.lemmas.List.{same_lists, get_or-map, length-map}
use Rattle.std.proofs.lemmas.Bool.{lt-ltb, cond-true, or_left, or_right, eq-eqb}
use Rattle.mesh.specs.Mesh.{times, ring, among}
use Rattle.mesh.proofs.Rings.{orbit, ring_orbit, ring_back, times_zero}
use Rattle.mesh.proofs.Rounds.{Rounds, period, period_next, ring_inside, times_first}
use Rattle.point.specs.Points.{Point, coordinate, total, totals, one_more, distance, Each, Between, KindLaws}
use Rattle.point.specs.Listed.{totals_at}
use Rattle.workpiece.specs.Reckoning.{factorial, common}

-- ---- every ring length divides the common denominator
pub divides : (m k : ℕ) → 1 ≤ k → k ≤ m → (q : ℕ) × (factorial m ≡ q * k)
unfolding factorial
divides zero k s l = absurd (omega arith)
divides (suc m) k s l = go (λ l. divides m k s l) (Rattle.std.proofs.lemmas.Bool.cases_eq k (suc m))
  where
    go : (k ≤ m → (q : ℕ) × (factorial m ≡ q * k)) → (k ≡ suc m) ⊎ (k ≡ suc m → ⊥) → (q : ℕ) × (suc m * factorial m ≡ q * k)
    go rec (inl e) = (factorial m, mul_comm (suc m) (factorial m) ∙ ap (λ x. factorial m * x) (sym e))
    go rec (inr e) = let r = rec (omega arith) in (suc m * r.0, ap (λ x. suc m * x) r.1 ∙ sym (mul_assoc (suc m) r.0 k))

pub quotient : (k : ℕ) → 1 ≤ k → k ≤ 64 → common ≡ (common / k) * k
unfolding common
quotient k s l =
    let r = divides 64 k s l in
    r.1 ∙ ap (λ x. x * k) (sym (ap (λ x. x / k) r.1 ∙ mul-div_cancel r.0 (omega arith)))

-- ---- lists
pub each_map : {X Y : Type 0} (P : Y → Type 0) (f : X → Y) (xs : List X) → Each (λ x. P (f x)) xs → Each P (map f xs)
each_map P f [] e = tt
each_map P f (x ∷ xs) e = (e.0, each_map P f xs e.1)

pub each_so : {X : Type 0} (P Q : X → Type 0) → ((x : X) → P x → Q x) → (xs : List X) → Each P xs → Each Q xs
each_so P Q f [] e = tt
each_so P Q f (x ∷ xs) e = (f x e.0, each_so P Q f xs e.1)

pub each_among : (P : ℕ → Type 0) (xs : List ℕ) → ((x : ℕ) → among x xs ≡ true → P x) → Each P xs
each_among P [] e = tt
each_among P (x ∷ xs) e =
    (e x (or_left (eqb x x) (among x xs) (eq-eqb x x refl)), each_among P xs (λ y t. e y (or_right (eqb y x) (among y xs) t)))

pub ring_below : {n : ℕ} {f : ℕ → ℕ} → Rounds n f → (h : ℕ) → h < n → Each (λ d. d < n) (ring f h)
ring_below {n} {f} r h l = each_among (λ d. d < n) (ring f h) (λ x t. ring_inside r h x l t)

-- two functions that agree on some darts
pub same_map : {X : Type 0} (u v : ℕ → X) (xs : List ℕ) → ((x : ℕ) → among x xs ≡ true → u x ≡ v x) → map u xs ≡ map v xs
same_map u v [] e = refl
same_map u v (x ∷ xs) e =
    ap₂ (λ p ps. p ∷ ps) (e x (or_left (eqb x x) (among x xs) (eq-eqb x x refl))) (same_map u v xs (λ y t. e y (or_right (eqb y x) (among y xs) t)))

pub total_snoc : (x : ℕ → ℤ) (k : ℕ) (f : ℕ → ℕ) (c : ℕ) → total (map x (orbit (suc k) f c)) ≡ total (map x (orbit k f c)) +ℤ x (times k f c)
total_snoc x zero f c = +ℤ_idr (x c) ∙ sym (+ℤ_idl (x c)) ∙ ap (λ y. pos 0 +ℤ x y) (sym (times_zero f c))
total_snoc x (suc k) f c =
    ap (λ z. x c +ℤ z) (total_snoc x k f (f c) ∙ ap (λ y. total (map x (orbit k f (f c))) +ℤ x y) (times_first k f c))
    ∙ sym (+ℤ_assoc (x c) (total (map x (orbit k f (f c)))) (x (times (suc k) f c)))

-- an orbit that comes back has one total, wherever it begins
total_turned : (x : ℕ → ℤ) (k : ℕ) (f : ℕ → ℕ) (c : ℕ) → times k f c ≡ c → total (map x (orbit k f (f c))) ≡ total (map x (orbit k f c))
total_turned x zero f c e = refl
total_turned x (suc k) f c e =
    total_snoc x k f (f c) ∙ ap (λ y. total (map x (orbit k f (f c))) +ℤ x y) (times_first k f c ∙ e)
    ∙ +ℤ_comm (total (map x (orbit k f (f c)))) (x c)

-- a ring has one total, whichever of its darts it is taken from
pub total_next : {n : ℕ} {f : ℕ → ℕ} → Rounds n f → (x : ℕ → ℤ) (h : ℕ) → h < n → total (map x (ring f (f h))) ≡ total (map x (ring f h))
total_next {n} {f} r x h l =
    ap (λ ds. total (map x ds)) (ring_orbit f (f h)) ∙ ap (λ k. total (map x (orbit k f (f h)))) (period_next r h l)
    ∙ total_turned x (period f h) f h (ring_back f h (r.short h l)) ∙ ap (λ ds. total (map x ds)) (sym (ring_orbit f h))

-- ---- the laws of a kind, over places
pub record PlaceLaws {X : Type 0} (point : X → Point) (d slack : ℕ) (mean : ℕ → List ℤ → Point) : Type 0 where
  pub near : (ps : List Point) → Each (λ p. (r : X) × (point r ≡ p)) ps → 1 ≤ length ps → length ps ≤ 64 → (i : ℕ) → i < d
      → 2 * distance (coordinate (mean (length ps) (totals d ps)) i *ℤ pos (length ps)) (coordinate (totals d ps) i) ≤ slack * length ps
  pub inside : (ps : List Point) → Each (λ p. (r : X) × (point r ≡ p)) ps → 1 ≤ length ps → length ps ≤ 64 → (i : ℕ) → i < d
      → (lo hi : ℤ) → Each (Between lo hi i) ps → Between lo hi i (mean (length ps) (totals d ps))

module _ {X P : Type 0} (numbers : P → Point) (meant : X → P) where
  gather : (ps : List Point) → Each (λ p. (r : X) × (numbers (meant r) ≡ p)) ps → (qs : List P) × (map numbers qs ≡ ps)
  gather [] e = ([], refl)
  gather (p ∷ ps) e = let r = gather ps e.1 in (meant e.0.0 ∷ r.0, ap₂ (λ x xs. x ∷ xs) e.0.1 r.1)

  pub place_laws : {d slack : ℕ} {mean : ℕ → List ℤ → P} → KindLaws d slack numbers mean → PlaceLaws (λ r. numbers (meant r)) d slack (λ k ts. numbers (mean k ts))
  place_laws {d} {slack} {mean} law = record {
    near = λ ps e s f i li.
        let g = gather ps e in
        let n : length g.0 ≡ length ps = sym (length-map g.0 numbers) ∙ ap length g.1 in
        subst (λ ts. 2 * distance (coordinate (numbers (mean (length ps) (totals d ts))) i *ℤ pos (length ps)) (coordinate (totals d ts) i) ≤ slack * length ps) g.1
        (subst (λ k. 2 * distance (coordinate (numbers (mean k (totals d (map numbers g.0)))) i *ℤ pos k) (coordinate (totals d (map numbers g.0)) i) ≤ slack * k) n
        (law.near g.0 (subst (λ k. 1 ≤ k) (sym n) s) (subst (λ k. k ≤ 64) (sym n) f) i li));
    inside = λ ps e s f i li lo hi b.
        let g = gather ps e in
        let n : length g.0 ≡ length ps = sym (length-map g.0 numbers) ∙ ap length g.1 in
        subst (λ ts. Between lo hi i (numbers (mean (length ps) (totals d ts)))) g.1
        (subst (λ k. Between lo hi i (numbers (mean k (totals d (map numbers g.0))))) n
        (law.inside g.0 (subst (λ k. 1 ≤ k) (sym n) s) (subst (λ k. k ≤ 64) (sym n) f) i li lo hi (subst (Each (Between lo hi i)) (sym g.1) b)));
  }

same_counting : {X : Type 0} (f g : ℕ → X) (d : ℕ) → ((i : ℕ) → i < d → f i ≡ g i) → map f (range_with_len 0 d) ≡ map g (range_with_len 0 d)
same_counting f g d e =
    same_lists (map f (range_with_len 0 d)) (map g (range_with_len 0 d)) (length-map-range_with_len f 0 d ∙ sym (length-map-range_with_len g 0 d))
    (λ k x l. let k' : k < d = subst (λ n. k < n) (length-map-range_with_len f 0 d) l in
    get_or-map-range_with_len f 0 d k k x k' (omega arith) ∙ e k k' ∙ sym (get_or-map-range_with_len g 0 d k k x k' (omega arith)))

pub totals_more : (d : ℕ) (at : ℕ → Point) (k : ℕ) (f : ℕ → ℕ) (c : ℕ)
    → one_more d (totals d (map at (orbit k f c))) (at (times k f c)) ≡ totals d (map at (orbit (suc k) f c))
totals_more d at k f c =
    same_counting _ _ d (λ i l.
    ap (λ z. z +ℤ coordinate (at (times k f c)) i) (totals_at d (map at (orbit k f c)) i l ∙ ap total (map-map (λ p. coordinate p i) at (orbit k f c)))
    ∙ sym (total_snoc (λ x. coordinate (at x) i) k f c)
    ∙ ap total (sym (map-map (λ p. coordinate p i) at (orbit (suc k) f c))))

-- the point of a place that was read
pub place_point : {X : Type 0} (point : X → Point) (ts : List X) (i : ℕ) (x : X) → i < length ts → x ≡ get_or ts i x → point x ≡ get_or (map point ts) i []
place_point point ts i x l e = ap point e ∙ sym (get_or-map point ts i x [] l)

-- one point more of an orbit
pub add_more : (d : ℕ) (at : ℕ → Point) (f : ℕ → ℕ) (h k : ℕ) (p : Point) (count count' : ℕ) (sums sums' : List ℤ) (b : Bool)
    → b ≡ ltb count 64 → count' ≡ cond b (count + 1) count → sums' ≡ cond b (one_more d sums p) sums
    → count ≡ k → k < 64 → sums ≡ totals d (map at (orbit k f h)) → p ≡ at (times k f h)
    → (count' ≡ k + 1) × (sums' ≡ totals d (map at (orbit (k + 1) f h)))
add_more d at f h k p count count' sums sums' b answer counted summed c l s e =
    let yes' : b ≡ true = answer ∙ lt-ltb count 64 (omega arith) in (
      counted ∙ cond-true b (count + 1) count yes' ∙ ap (λ x. x + 1) c,
      summed ∙ cond-true b (one_more d sums p) sums yes' ∙ ap (λ xs. one_more d xs p) s ∙ ap (one_more d (totals d (map at (orbit k f h)))) e
          ∙ totals_more d at k f h ∙ ap (λ j. totals d (map at (orbit j f h))) (sym (add-one k)),
    )
