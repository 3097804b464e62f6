-- What an accepted call makes of the workpiece, and of the table by the points that its places mean.
use Rattle.std.specs.Prelude.{◌≡◌, ℕ, ◌+◌, ◌*◌, ◌/◌, ◌<◌, ◌≤◌, cond, List, [], map, length, ℤ, slice_index_or}
use Rattle.mesh.specs.Mesh.{Mesh, Same, turn, ring, among}
use Rattle.point.specs.Points.{Point, totals}
use Rattle.workpiece.specs.Law.{Work}

-- the carrier means m, and there are some splits and averages more
pub record Next (splits averages : ℕ) (m : Mesh) (before after : Work) : Type 0 where
  pub carried : Same after.carrier m
  pub split_so : after.splits ≡ before.splits + splits
  pub averaged_so : after.averages ≡ before.averages + averages

-- places 4h to 4h + 3 have the point that h had
pub record Split (n : ℕ) (before after : List Point) : Type 0 where
  pub long : length after ≡ length before
  pub here : (x : ℕ) → x < 4 * n → slice_index_or after x [] ≡ slice_index_or before (x / 4) []
  pub past : (x : ℕ) → 4 * n ≤ x → slice_index_or after x [] ≡ slice_index_or before x []

-- the mean of the points of h's face ring
abbrev pub ring_mean : ℕ → (ℕ → List ℤ → Point) → Mesh → List Point → ℕ → Point
ring_mean d mean m table h = mean (length (ring m.next h)) (totals d (map (λ x. slice_index_or table x []) (ring m.next h)))

-- each dart has the mean over its face ring
pub record Averaged (d : ℕ) (mean : ℕ → List ℤ → Point) (m : Mesh) (before after : List Point) : Type 0 where
  pub long : length after ≡ length before
  pub here : (h : ℕ) → h < m.n → slice_index_or after h [] ≡ ring_mean d mean m before h
  pub past : (h : ℕ) → m.n ≤ h → slice_index_or after h [] ≡ slice_index_or before h []

-- each dart of the ring of h under f has the point p, and no other place has changed
pub record Stored (f : ℕ → ℕ) (h : ℕ) (p : Point) (before after : List Point) : Type 0 where
  pub long : length after ≡ length before
  pub here : (x : ℕ) → slice_index_or after x [] ≡ cond (among x (ring f h)) p (slice_index_or before x [])

-- each dart of the vertex ring of d has the point p, and no other place has changed
abbrev pub Placed : Mesh → ℕ → Point → List Point → List Point → Type 0
Placed m d p before after = Stored (turn m) d p before after
