-- What closing a sheet into a skin answers.
use Rattle.std.specs.Prelude.{◌≡◌, ℕ, Ok, Err, Result}
use Rattle.mesh.specs.Mesh.{Same}
use Rattle.skin.specs.declared.table.TableSkin.{TableSkin}
use Rattle.skin.specs.Meaning.{meaning}
use Rattle.closing.specs.declared.fault.SkinFault.{SkinFault}
use Rattle.closing.specs.Sheet.{Sheet, mesh}
use Rattle.closing.specs.Law.{Skins}
use Rattle.closing.specs.Causes.{Places, Told}
use Rattle.closing.specs.Verdict.{verdict}

-- how many darts the skin has, or the fault
abbrev pub counted : Result TableSkin SkinFault → Result ℕ SkinFault
counted (Ok t) = Ok (meaning t).n
counted (Err fault) = Err fault

-- the answer r is that of closing into tables of these places
pub record Held (s : Sheet) (p : Places) (r : Result TableSkin SkinFault) : Type 0 where
  pub answer : counted r ≡ verdict s p
  pub told : Told s p (counted r)
  -- the skin means the sheet's mesh, and is a skin of the sheet
  pub same : (t : TableSkin) → r ≡ Ok t → Same (meaning t) (mesh s)
  pub skin : (t : TableSkin) → r ≡ Ok t → Skins s (meaning t)
