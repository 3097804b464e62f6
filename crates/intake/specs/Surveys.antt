-- What a text closes to.
use Rattle.std.specs.Prelude.{◌≡◌, ℕ, min, List, length, Ok, Err, Result}
use Rattle.mesh.specs.Mesh.{Mesh}
use Rattle.skin.specs.Counts.{counting}
use Rattle.skin.specs.Meaning.{meaning}
use Rattle.skin.specs.declared.table.TableSkin.{TableSkin}
use Rattle.sheet.specs.declared.fault.TextFault.{TextFault}
use Rattle.sheet.specs.Form.{judge}
use Rattle.sheet.specs.Sheet as text
use Rattle.closing.specs.declared.fault.SkinFault.{SkinFault}
use Rattle.closing.specs.declared.fault.SkinFault.TheVariants.{Text}
use Rattle.closing.specs.Sheet.{Sheet, mesh}
use Rattle.closing.specs.Drawing.{drawn}
use Rattle.closing.specs.Causes.{Places}
use Rattle.closing.specs.Verdict.{verdict}
use Rattle.intake.specs.declared.survey.Survey.{Survey}
use Rattle.intake.specs.Figures.{figure_of}
use Rattle.intake.specs.declared.fault.IntakeFault.{IntakeFault}
use Rattle.intake.specs.declared.fault.IntakeFault.TheVariants.{Skin, Memory}

-- tables with a place for each corner, up to the most darts that a skin may have
abbrev pub ample : Sheet → Places
ample s =
    let n = length s.corners in
    record { corners = n; next = min n 1048576; prev = min n 1048576; twin = min n 1048576 }

abbrev pub survey : ℕ → Mesh → Survey
survey n m = record { darts = n; counts = counting m; figure = figure_of (counting m) }

abbrev pub counted : Sheet → Result ℕ SkinFault → Result Survey SkinFault
counted s (Ok n) = Ok (survey n (mesh s))
counted s (Err fault) = Err fault

abbrev pub closed_to : Result (text.Sheet × ℕ) TextFault → Result Survey SkinFault
closed_to (Ok r) = counted (drawn r.0) (verdict (drawn r.0) (ample (drawn r.0)))
closed_to (Err fault) = Err (Text fault)

-- the counts of the skin that the sheet of a text closes to, or the fault of the text or of the sheet
abbrev pub survey_of : List ℕ → Result Survey SkinFault
survey_of bytes = closed_to (judge text.sheet bytes 0)

-- a skin whose counts are those, or the fault
abbrev pub Holding : List ℕ → Result TableSkin SkinFault → Type 0
Holding bytes (Ok skin) = survey_of bytes ≡ Ok (survey (meaning skin).n (meaning skin))
Holding bytes (Err fault) = survey_of bytes ≡ Err fault

-- that is what is answered, unless memory runs out
abbrev pub Surveyed : List ℕ → Result Survey IntakeFault → Type 0
Surveyed bytes (Ok found) = survey_of bytes ≡ Ok found
Surveyed bytes (Err (Skin fault)) = survey_of bytes ≡ Err fault
Surveyed bytes (Err Memory) = Unit {0}
