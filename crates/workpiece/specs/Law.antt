-- The law: what a workpiece and its table keep beside the reckoning, after every history of calls.
use Rattle.std.specs.Prelude.{◌≡◌, ℕ, ◌*◌, ◌^◌, ◌<◌, ◌≤◌, List, [], length, ℤ, slice_index_or}
use Rattle.mesh.specs.Mesh.{Mesh, times, turn, Same}
use Rattle.mesh.specs.Count.{figure}
use Rattle.skin.specs.declared.skin.Skin.{Ghosts}
use Rattle.point.specs.Points.{Point, coordinate, Near, Each, Between}
use Rattle.workpiece.specs.declared.piece.Workpiece.{Workpiece}
use Rattle.workpiece.specs.Carriers.{carried}
use Rattle.workpiece.specs.Reckoning.{Reckoning, common}

-- a workpiece, by its carrier, its splits and its averages
pub record Work : Type 0 where
  pub carrier : Mesh
  pub splits : ℕ
  pub averages : ℕ

-- what a workpiece means
abbrev pub work : {S : Type 0} → Ghosts S → Workpiece S → Work
work k w = record { carrier = carried k w.carrier; splits = w.carrier.ladder.count; averages = w.averages }

-- the skin that it was opened over
abbrev pub opened_skin : {S : Type 0} → Workpiece S → S
opened_skin w = w.carrier.ladder.base

-- twice the distance of c from the exact fraction of coordinate i of dart h is at most the slack times the averages
abbrev pub NearExact : ℕ → Reckoning → ℕ → ℕ → ℤ → Type 0
NearExact slack R h i c = Near (slack * R.averages) (common ^ R.averages) c (R.exact h i)

-- coordinate i of p lies in the span of that coordinate among some points
abbrev pub Spanned : List Point → ℕ → Point → Type 0
Spanned entered i p = (lo hi : ℤ) → Each (Between lo hi i) entered → Between lo hi i p

-- What a workpiece w with the points of its whole table keeps beside the reckoning R, at a kind of d coordinates and this slack.
pub record Faithful (d slack : ℕ) (R : Reckoning) (w : Work) (table : List Point) : Type 0 where
  pub carried : Same w.carrier R.carrier
  pub split_so : w.splits ≡ R.splits
  pub averaged_so : w.averages ≡ R.averages
  -- each dart has a place
  pub covers : R.carrier.n ≤ length table
  -- each coordinate of each dart's point is near its exact fraction
  pub near : (h i : ℕ) → h < R.carrier.n → i < d → NearExact slack R h i (coordinate (slice_index_or table h []) i)
  -- all darts of a vertex ring hold the same point
  pub rings : (h k : ℕ) → h < R.carrier.n → slice_index_or table (times k (turn R.carrier) h) [] ≡ slice_index_or table h []
  -- no coordinate leaves its span among the points opened with or placed
  pub inside : (h i : ℕ) → h < R.carrier.n → i < d → Spanned R.entered i (slice_index_or table h [])
  -- vertices less edges plus faces are what they were at the opening
  pub figured : figure R.carrier ≡ figure R.opened
