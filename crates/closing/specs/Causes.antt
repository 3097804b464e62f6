-- What can be wrong with a sheet, and which of its faults is told.
use Rattle.std.specs.Prelude.{◌≡◌, ℕ, ◌+◌, ◌<◌, ◌≤◌, ◌⊎◌, List, length, Ok, Err, Result, ◌≢◌, slice_index}
use Rattle.mesh.specs.Mesh.{ring, turn}
use Rattle.closing.specs.declared.fault.SkinFault.{SkinFault}
use Rattle.closing.specs.declared.fault.SkinFault.TheVariants.{Text, Face, TooMany, Short, Stray, Twice, Met, Single, Bare, Several, Crowded}
use Rattle.closing.specs.Numbering.{start}
use Rattle.closing.specs.Sheet.{Sheet, darts, mesh, from, to}
use Rattle.closing.specs.Law.{Reaches}

-- how many places corners, next, prev and twin have
pub record Places : Type 0 where
  pub corners : ℕ
  pub next : ℕ
  pub prev : ℕ
  pub twin : ℕ

abbrev pub places : Sheet → List ℕ → List ℕ → List ℕ → Places
places s a b c = record { corners = length s.corners; next = length a; prev = length b; twin = length c }

-- each has n places
pub record Room (n : ℕ) (p : Places) : Type 0 where
  pub corners : n ≤ p.corners
  pub next : n ≤ p.next
  pub prev : n ≤ p.prev
  pub twin : n ≤ p.twin

-- one of them has fewer than n
abbrev pub Lacks : ℕ → Places → Type 0
Lacks n p = (p.corners < n) ⊎ ((p.next < n) ⊎ ((p.prev < n) ⊎ (p.twin < n)))

-- two corners of face f name the same vertex
abbrev pub Repeats : Sheet → ℕ → Type 0
Repeats s f = (i : ℕ) × (j : ℕ) × (i < j) × (j < slice_index s.lengths f) × (from s (start s.lengths f + i) ≡ from s (start s.lengths f + j))

-- two darts start at v, and turning the one never comes to the other
abbrev pub Apart : Sheet → ℕ → Type 0
Apart s v = (g : ℕ) × (h : ℕ) × (g < darts s) × (h < darts s) × (from s g ≡ v) × (from s h ≡ v) × (Reaches (turn (mesh s)) g h → ⊥)

-- the sheet has this fault; the turns of the last two mean something where none of the others is there
abbrev pub Wrong : Sheet → Places → SkinFault → Type 0
Wrong s p (Face f) = (f < length s.lengths) × ((slice_index s.lengths f < 3) ⊎ (64 < slice_index s.lengths f))
Wrong s p TooMany = 1048576 < darts s
Wrong s p (Short n) = (n ≡ darts s) × Lacks n p
Wrong s p (Stray h) = (h < darts s) × (s.points ≤ from s h)
Wrong s p (Twice h) = (f : ℕ) × (f < length s.lengths) × (h ≡ start s.lengths f) × Repeats s f
Wrong s p (Met h) = (h < darts s) × ((g : ℕ) × (g < h) × (from s g ≡ from s h) × (to s g ≡ to s h))
Wrong s p (Single h) = (h < darts s) × ((g : ℕ) → g < darts s → from s g ≡ to s h → to s g ≢ from s h)
Wrong s p (Bare v) = (v < s.points) × ((h : ℕ) → h < darts s → from s h ≢ v)
Wrong s p (Several v) = (v < s.points) × Apart s v
Wrong s p (Crowded v) = (v < s.points) × ((h : ℕ) × (h < darts s) × (from s h ≡ v) × (64 < length (ring (turn (mesh s)) h)))
Wrong s p (Text e) = ⊥

-- the causes in the order in which the whole sheet is searched for them
abbrev pub rank : SkinFault → ℕ
rank (Face f) = 0
rank TooMany = 1
rank (Short n) = 2
rank (Stray h) = 3
rank (Twice h) = 4
rank (Met h) = 5
rank (Single h) = 6
rank (Bare v) = 7
rank (Several v) = 8
rank (Crowded v) = 9
rank (Text e) = 10

-- the face, dart or vertex that a fault names
abbrev pub thing : SkinFault → ℕ
thing (Face f) = f
thing TooMany = 0
thing (Short n) = n
thing (Stray h) = h
thing (Twice h) = h
thing (Met h) = h
thing (Single h) = h
thing (Bare v) = v
thing (Several v) = v
thing (Crowded v) = v
thing (Text e) = 0

-- y goes before z: by the order of the causes, and among faults of one cause by what they name
abbrev pub Foremost : SkinFault → SkinFault → Type 0
Foremost y z = (rank y < rank z) ⊎ ((rank y ≡ rank z) × (thing y ≤ thing z))

-- taken, the sheet has no fault and the answer counts its darts; declined, the fault told is the first of those that it has
abbrev pub Told : Sheet → Places → Result ℕ SkinFault → Type 0
Told s p (Ok n) = (n ≡ darts s) × ((y : SkinFault) → Wrong s p y → ⊥)
Told s p (Err y) = Wrong s p y × ((z : SkinFault) → Wrong s p z → Foremost y z)
