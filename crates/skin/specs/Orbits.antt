-- The darts that a walk along a ring has still to give.
use Rattle.std.specs.Prelude.{◌≡◌, ℕ, ◌<◌, cond, nat_lt, List, [], ◌∷◌, length, MatchOption, Some, None, Option}
use Rattle.mesh.specs.Mesh.{walk, ring}

-- the darts of the ring of h; none for a dart of n or more
abbrev pub ring_of : ℕ → (ℕ → ℕ) → ℕ → List ℕ
ring_of n f h = cond (nat_lt h n) (ring f h) []

-- after c what f reaches from it before it comes to h, and before any dart the whole ring
abbrev pub to_come : ℕ → (ℕ → ℕ) → ℕ → Option ℕ → List ℕ
to_come n f h None = ring_of n f h
to_come n f h (Some c) = walk 64 f h (f c)

-- c is a dart, and at most 64 steps of f lead from it to h
abbrev pub Returns : ℕ → (ℕ → ℕ) → ℕ → Option ℕ → Type 0
Returns n f h o = (c : ℕ) → o ≡ Some c → (c < n) × (length (walk 64 f h (f c)) < 64)

-- r is the first of the darts to come, and the others are to come after it; or there is none
abbrev pub First : ℕ → (ℕ → ℕ) → ℕ → Option ℕ → Option ℕ → Type 0
First n f h o r = MatchOption r (to_come n f h o ≡ []) (λ d. Returns n f h (Some d) × (to_come n f h o ≡ d ∷ to_come n f h (Some d)))
