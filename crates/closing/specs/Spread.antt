-- What spreading points over darts answers, and what it leaves.
use Rattle.std.specs.Prelude.{◌≡◌, ℕ, ◌<◌, ◌≤◌, cond, ◌||◌, List, length, Ok, Err, Result, nat_lt, slice_index, slice_index_or}
use Rattle.mesh.specs.Smallest.{smallest}
use Rattle.closing.specs.declared.fault.SkinFault.{SkinFault}
use Rattle.closing.specs.declared.fault.SkinFault.TheVariants.{Short, Stray}
use Rattle.mesh.specs.Mesh.{Mesh, turn}
use Rattle.closing.specs.Sheet.{Sheet, darts, stray}
use Rattle.closing.specs.Law.{Reaches, Skins}
use Rattle.closing.specs.Verdict.{unless}

-- 1, then 10, for n darts, p points and a table of m places
unfoldable pub told : ℕ → List ℕ → ℕ → ℕ → Result (Unit {0}) SkinFault
told n cs p m =
    cond (nat_lt (length cs) n || nat_lt m n) (Err (Short n))
    (unless Stray (smallest n (stray p cs)) (Ok tt))

-- each of the first n places has the point of its corner, and the others are as they were
pub record Spread {X : Type 0} (n : ℕ) (cs : List ℕ) (ps old new : List X) : Type 0 where
  pub long : length new ≡ length old
  pub front : (h : ℕ) (d : X) → h < n → slice_index_or new h d ≡ slice_index_or ps (slice_index cs h) d
  pub rest : (h : ℕ) (d : X) → n ≤ h → slice_index_or new h d ≡ slice_index_or old h d

-- on a skin of n darts whose sheet has these corners, the darts of a vertex ring hold the same point
abbrev pub Alike : {X : Type 0} → ℕ → List ℕ → List X → Type 0
Alike {X} n cs new =
    (s : Sheet) (m : Mesh) → s.corners ≡ cs → darts s ≡ n → Skins s m →
    (g h : ℕ) (d : X) → g < n → h < n → Reaches (turn m) g h → slice_index_or new g d ≡ slice_index_or new h d
