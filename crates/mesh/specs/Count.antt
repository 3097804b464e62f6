-- Counting the rings of a mesh: each ring is counted at its smallest dart.
use Rattle.std.specs.Prelude.{◌≡◌, ℕ, zero, suc, ◌+◌, ◌-◌, ◌*◌, ◌/◌, ◌<◌, ◌≤◌, Bool, true, false, List, [], ◌∷◌, filter, Option, MatchOption, ℤ, pos, ◌-ℤ◌}
use Rattle.std.specs.List.{range_with_len}
use Rattle.mesh.specs.Mesh.{Mesh, times, turn, ring, dual, quad, floor}

-- 1 for yes, 0 for no
abbrev pub bit : Bool → ℕ
bit true = 1
bit false = 0

-- w 0 + w 1 + .. + w (n − 1)
unfoldable pub sum : (ℕ → ℕ) → ℕ → ℕ
sum w zero = 0
sum w (suc n) = w n + sum w n

-- how many numbers below n pass the test p
abbrev pub count : (ℕ → Bool) → ℕ → ℕ
count p n = sum (λ h. bit (p h)) n

-- no dart of the ring of h is smaller than h
abbrev pub leads : (ℕ → ℕ) → ℕ → Bool
leads f h = floor h (ring f h)

-- the darts below n that lead their rings under f, in order
unfoldable pub leaders : (ℕ → ℕ) → ℕ → List ℕ
leaders f n = filter (leads f) (range_with_len 0 n)

-- those of them from dart a on
unfoldable pub leaders_from : (ℕ → ℕ) → ℕ → ℕ → List ℕ
leaders_from f n a = filter (leads f) (range_with_len a (n - a))

-- r is the first of them, and the others are those from the dart after it on; or there is none
abbrev pub Leader : (ℕ → ℕ) → ℕ → ℕ → Option ℕ → Type 0
Leader f n a r = MatchOption r (leaders_from f n a ≡ []) (λ h. (h < n) × (leaders_from f n a ≡ h ∷ leaders_from f n (h + 1)))

-- the rings of f among the darts below n
abbrev pub rings : (ℕ → ℕ) → ℕ → ℕ
rings f n = count (leads f) n

abbrev pub faces : Mesh → ℕ
faces m = rings m.next m.n

abbrev pub vertices : Mesh → ℕ
vertices m = rings (turn m) m.n

abbrev pub edges : Mesh → ℕ
edges m = m.n / 2

-- vertices and faces less edges
abbrev pub figure : Mesh → ℤ
figure m = pos (vertices m + faces m) -ℤ pos (edges m)

-- what a split makes of a mesh
abbrev pub split : Mesh → Mesh
split m = dual (quad m)

-- Dual changes vertices and faces about
pub record DualCounts (m : Mesh) : Type 0 where
  pub vertices_are : vertices (dual m) ≡ faces m
  pub edges_are : edges (dual m) ≡ edges m
  pub faces_are : faces (dual m) ≡ vertices m
  pub figure_is : figure (dual m) ≡ figure m

-- Quad has a vertex for each vertex, edge and face, an edge for each half of an edge and of a spoke, a face for each dart
pub record QuadCounts (m : Mesh) : Type 0 where
  pub vertices_are : vertices (quad m) ≡ vertices m + edges m + faces m
  pub edges_are : edges (quad m) ≡ 2 * m.n
  pub faces_are : faces (quad m) ≡ m.n
  pub figure_is : figure (quad m) ≡ figure m

pub record SplitCounts (m : Mesh) : Type 0 where
  pub vertices_are : vertices (split m) ≡ m.n
  pub edges_are : edges (split m) ≡ 2 * m.n
  pub faces_are : faces (split m) ≡ vertices m + edges m + faces m
  pub figure_is : figure (split m) ≡ figure m

-- the ring of h under f has exactly one dart that is counted, its smallest
pub record Once (f : ℕ → ℕ) (h : ℕ) : Type 0 where
  pub lead : ℕ
  pub steps : ℕ
  pub reached : times steps f h ≡ lead
  pub smallest : (k : ℕ) → lead ≤ times k f h
  pub counted : leads f lead ≡ true
  pub only : (k : ℕ) → leads f (times k f h) ≡ true → times k f h ≡ lead

-- the darts below n fall into k classes under f: each class has a number below k, two darts are of one class
-- exactly if steps of f lead from one to the other, and no number is left over
pub record Classes (n : ℕ) (f : ℕ → ℕ) (k : ℕ) : Type 0 where
  pub number : ℕ → ℕ
  pub below : (h : ℕ) → h < n → number h < k
  pub together : (h i : ℕ) → h < n → number (times i f h) ≡ number h
  pub joined : (h d : ℕ) → h < n → d < n → number h ≡ number d → (i : ℕ) × (times i f h ≡ d)
  pub every : (x : ℕ) → x < k → (h : ℕ) × (h < n) × (number h ≡ x)
