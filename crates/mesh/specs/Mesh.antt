-- A closed mesh of darts, its rings, and the laws that every skin keeps.
use Rattle.std.specs.Prelude.{◌≡◌, ℕ, zero, suc, ◌+◌, ◌*◌, ◌/◌, ◌%◌, ◌<◌, ◌≤◌, Bool, true, false, cond, ◌&&◌, ◌||◌, List, [], ◌∷◌, length, Some, None, Option, ◌==◌, ◌≢◌, nat_le, nat_lt}
use Rattle.std.proofs.Math.Logic.{∥∥₁_elim}
use mathlib.Core.HLevel.{Π_prop, ⊥_prop}
use Rattle.std.proofs.Math.Nat.{ℕ_set}
use Rattle.std.proofs.Math.Bridge.{le_prop}

-- n darts, numbered from 0; what the three say of a dart of n or more means nothing
pub record Mesh : Type 0 where
  pub n : ℕ
  pub next : ℕ → ℕ
  pub prev : ℕ → ℕ
  pub twin : ℕ → ℕ

-- one step round the start vertex of a dart
abbrev pub turn : Mesh → ℕ → ℕ
turn m h = m.next (m.twin h)

-- f applied k times
unfoldable pub times : ℕ → (ℕ → ℕ) → ℕ → ℕ
times zero f h = h
times (suc k) f h = f (times k f h)

-- the darts from c on that f reaches before it comes to s, at most k of them
unfoldable pub walk : ℕ → (ℕ → ℕ) → ℕ → ℕ → List ℕ
walk zero f s c = []
walk (suc k) f s c = cond (c == s) [] (c ∷ walk k f s (f c))

-- the ring of h under f: h, and what f reaches from it before it comes back to h.
-- (A ring of more than 64 darts is cut off at its 65th.)
unfoldable pub ring : (ℕ → ℕ) → ℕ → List ℕ
ring f h = h ∷ walk 64 f h (f h)

-- r steps of f bring h back, and no fewer do
pub record Period (f : ℕ → ℕ) (h r : ℕ) : Type 0 where
  pub positive : 0 < r
  pub back : times r f h ≡ h
  pub least : (j : ℕ) → 0 < j → j < r → times j f h ≢ h

-- each dart's ring under f has at most 64 darts
abbrev pub Short : ℕ → (ℕ → ℕ) → Type 0
Short n f = (h : ℕ) → h < n → length (ring f h) ≤ 64

pub record Lawful (m : Mesh) : Type 0 where
  pub few : m.n ≤ 1048576
  pub next_below : (h : ℕ) → h < m.n → m.next h < m.n
  pub prev_below : (h : ℕ) → h < m.n → m.prev h < m.n
  pub twin_below : (h : ℕ) → h < m.n → m.twin h < m.n
  pub next_prev : (h : ℕ) → h < m.n → m.next (m.prev h) ≡ h
  pub prev_next : (h : ℕ) → h < m.n → m.prev (m.next h) ≡ h
  pub twin_twin : (h : ℕ) → h < m.n → m.twin (m.twin h) ≡ h
  pub twin_other : (h : ℕ) → h < m.n → m.twin h ≢ h
  pub faces_short : Short m.n m.next
  pub vertices_short : Short m.n (turn m)
  deriving IsProp as Lawful-prop

-- a fact that is held as one that may have at most one proof
pub shown : {m : Mesh} → ∥ Lawful m ∥₁ → Lawful m
shown {m} t =
    ∥∥₁_elim t
    (Lawful-prop le_prop
    (Π_prop λ h. Π_prop λ b. le_prop) (Π_prop λ h. Π_prop λ b. le_prop) (Π_prop λ h. Π_prop λ b. le_prop)
    (Π_prop λ h. Π_prop λ b. ℕ_set _ _) (Π_prop λ h. Π_prop λ b. ℕ_set _ _) (Π_prop λ h. Π_prop λ b. ℕ_set _ _)
    (Π_prop λ h. Π_prop λ b. Π_prop λ e. ⊥_prop)
    (Π_prop λ h. Π_prop λ b. le_prop) (Π_prop λ h. Π_prop λ b. le_prop))
    (λ l. l)

-- what a call answers of dart h: x, and none for a dart of n or more
abbrev pub within : ℕ → ℕ → ℕ → Option ℕ
within n h x = cond (nat_lt h n) (Some x) None

-- the same darts, with faces and vertices in each other's place
abbrev pub dual : Mesh → Mesh
dual m = record { n = m.n; next = turn m; prev = λ h. m.twin (m.prev h); twin = m.twin }

-- the corner j of the four
abbrev pub corner : {A : Type 0} → ℕ → A → A → A → A → A
corner zero a b c d = a
corner (suc zero) a b c d = b
corner (suc (suc zero)) a b c d = c
corner (suc (suc (suc k))) a b c d = d

-- four darts 4h + j for each dart h; of a mesh of more than 262,144 darts, the mesh of no darts
abbrev pub quad : Mesh → Mesh
quad m =
    record {
      n = cond (nat_le m.n 262144) (4 * m.n) 0;
      next = λ d. 4 * (d / 4) + corner (d % 4) 1 2 3 0;
      prev = λ d. 4 * (d / 4) + corner (d % 4) 3 0 1 2;
      twin = λ d. corner (d % 4) (4 * turn m (d / 4) + 3) (4 * m.next (d / 4) + 2) (4 * m.prev (d / 4) + 1) (4 * m.twin (m.prev (d / 4)));
    }

-- two meshes that mean the same: as many darts, and the same said of each
pub record Same (a b : Mesh) : Type 0 where
  pub n : a.n ≡ b.n
  pub next : (h : ℕ) → h < a.n → a.next h ≡ b.next h
  pub prev : (h : ℕ) → h < a.n → a.prev h ≡ b.prev h
  pub twin : (h : ℕ) → h < a.n → a.twin h ≡ b.twin h

-- a mesh, or its dual where the flag is set
abbrev pub flipped : Bool → Mesh → Mesh
flipped b m = cond b (dual m) m

-- whether h is one of some darts
abbrev pub among : ℕ → List ℕ → Bool
among h [] = false
among h (x ∷ xs) = h == x || among h xs

-- whether each of some darts is a or more
abbrev pub floor : ℕ → List ℕ → Bool
floor a [] = true
floor a (x ∷ xs) = nat_le a x && floor a xs
