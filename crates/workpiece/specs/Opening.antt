-- Opening a skin with a table of points: when it is declined, and how the law starts.
use Rattle.std.specs.Prelude.{◌≡◌, ℕ, ◌<◌, ◌≤◌, List, [], ◌++◌, length, Ok, Err, Result, slice_index_or}
use Rattle.mesh.specs.Mesh.{Mesh, turn}
use Rattle.skin.specs.Skins.{mesh}
use Rattle.skin.specs.declared.skin.Skin.{Ghosts}
use Rattle.point.specs.Points.{Point}
use Rattle.workpiece.specs.declared.piece.Workpiece.{Workpiece}
use Rattle.workpiece.specs.declared.fault.WorkFault.{WorkFault}
use Rattle.workpiece.specs.declared.fault.WorkFault.TheVariants.{Short, NoDart, Differs, TooManyDarts, SplitsSpent, AveragesSpent}
use Rattle.workpiece.specs.Reckoning.{opening}
use Rattle.workpiece.specs.Law.{work, opened_skin, Faithful}

-- the point of h is that of its turn
abbrev pub Agreeing : Mesh → List Point → ℕ → Type 0
Agreeing m t h = slice_index_or t h [] ≡ slice_index_or t (turn m h) []

-- the point of h differs from that of its turn
abbrev pub Differing : Mesh → List Point → ℕ → Type 0
Differing m t h = Agreeing m t h → ⊥

-- each dart of m has a place, and the points agree round each vertex ring
pub record Openable (m : Mesh) (t : List Point) : Type 0 where
  pub fits : m.n ≤ length t
  pub agree : (h : ℕ) → h < m.n → Agreeing m t h

-- What is answered when m is to be opened with the table t: 1 by the darts, then 4 with the smallest dart that differs.
abbrev pub MayOpen : Mesh → List Point → Result (Unit {0}) WorkFault → Type 0
MayOpen m t (Ok u) = Openable m t
MayOpen m t (Err (Short k)) = (k ≡ m.n) × (length t < m.n)
MayOpen m t (Err (NoDart k)) = ⊥
MayOpen m t (Err (Differs h)) =
    (m.n ≤ length t) × (h < m.n) × ((k : ℕ) → k < h → Agreeing m t k) × Differing m t h
MayOpen m t (Err TooManyDarts) = ⊥
MayOpen m t (Err SplitsSpent) = ⊥
MayOpen m t (Err AveragesSpent) = ⊥

-- A new workpiece over a skin: with any table that can be opened it is faithful to the reckoning of that opening.
pub record Opened {S : Type 0} (k : Ghosts S) (skin : S) (w : Workpiece S) : Type 0 where
  pub held : opened_skin w ≡ skin
  pub carried : (work k w).carrier ≡ mesh k skin
  pub split_so : (work k w).splits ≡ 0
  pub averaged_so : (work k w).averages ≡ 0
  pub faithful : (d slack : ℕ) (t rest : List Point) → Openable (mesh k skin) t → Faithful d slack (opening (mesh k skin) t) (work k w) (t ++ rest)
