-- What closing a sheet does.
use Rattle.std.specs.Prelude.{◌≡◌, ℕ, ◌≤◌, true, List, length, is_ok, Ok, Err, Result}
use Rattle.mesh.specs.Tables.{tables}
use Rattle.closing.specs.declared.fault.SkinFault.{SkinFault}
use Rattle.closing.specs.Sheet.{Sheet, darts, mesh}
use Rattle.closing.specs.Edges.{Holds}
use Rattle.closing.specs.Law.{Skins, Closable}
use Rattle.closing.specs.Causes.{places, Room, Told}
use Rattle.closing.specs.Verdict.{verdict, leaves}

-- what can be judged: the corners are in hand, and each table has a place for each dart
pub record Ready (s : Sheet) (a b c : List ℕ) : Type 0 where
  pub few : darts s ≤ 1048576
  pub corners : darts s ≤ length s.corners
  pub next : length a ≡ darts s
  pub prev : length b ≡ darts s
  pub twin : length c ≡ darts s

-- the tables hold g of the mesh's functions
pub record Tell (s : Sheet) (g : (ℕ → ℕ) → ℕ → ℕ) (a b c : List ℕ) : Type 0 where
  pub next : Holds (g (mesh s).next) (darts s) a
  pub prev : Holds (g (mesh s).prev) (darts s) b
  pub twin : Holds (g (mesh s).twin) (darts s) c

-- the function itself where a sheet is taken, and 0 where it is declined
abbrev pub or_zero : Result (Unit {0}) SkinFault → (ℕ → ℕ) → ℕ → ℕ
or_zero (Ok x) f = f
or_zero (Err y) f = λ _. 0

-- what closing does: the tables a, b, c become x, y, z, and the answer is r
pub record Closed (s : Sheet) (a b c x y z : List ℕ) (r : Result ℕ SkinFault) : Type 0 where
  pub answer : r ≡ verdict s (places s a b c)
  pub next : x ≡ leaves (darts s) r (mesh s).next a
  pub prev : y ≡ leaves (darts s) r (mesh s).prev b
  pub twin : z ≡ leaves (darts s) r (mesh s).twin c
  -- the answer in words
  pub told : Told s (places s a b c) r
  -- it is taken exactly if it can be closed and there is room
  pub exact : (is_ok r ≡ true → Closable s × Room (darts s) (places s a b c)) × (Closable s → Room (darts s) (places s a b c) → is_ok r ≡ true)
  -- the tables of what is taken are a skin of the sheet
  pub skin : is_ok r ≡ true → Skins s (tables (darts s) x y z)
