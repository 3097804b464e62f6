-- A table of what a call answers of each dart.
use Rattle.std.proofs.Common.{◌≡◌, ℕ, zero, suc, ◌+◌, ◌<◌, ◌≤◌, List, ◌∷◌, map, get_or, Some, None, sym, refl, ap, ◌∙◌, arith}
use Rattle.std.specs.List.{filter_map, range_with_len}
use Rattle.std.proofs.lemmas.Bool.{cond_below}
use Rattle.std.proofs.lemmas.List.FromFn.{get_or-map-range_with_len}
use Rattle.mesh.specs.Mesh.{within}

-- each of the darts from a on is answered
pub answered : (n a k : ℕ) (f : ℕ → ℕ) → a + k ≤ n → filter_map (λ h. within n h (f h)) (range_with_len a k) ≡ map f (range_with_len a k)
answered n a zero f b = refl
answered n a (suc k) f b =
    let e : within n a (f a) ≡ Some (f a) = sym (cond_below a n (Some (f a)) None (omega (arith, b))) in
    simp e (ap (λ ys. f a ∷ ys) (answered n (a + 1) k f (omega (arith, b))))

pub place : (n k : ℕ) (f : ℕ → ℕ) (xs : List ℕ) → xs ≡ filter_map (λ h. within n h (f h)) (range_with_len 0 k) → k ≡ n → (h : ℕ) → h < n → get_or xs h 0 ≡ f h
place n k f xs e q h b =
    ap (λ ys. get_or ys h 0) (e ∙ answered n 0 k f (omega (arith, q)))
    ∙ get_or-map-range_with_len f 0 k h h 0 (omega (arith, q, b)) (omega arith)
