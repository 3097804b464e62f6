-- Which tori may split at full size.
use Rattle.std.specs.Prelude.{◌≡◌, ℕ, ◌≤◌, Ok, Err}
use Rattle.mesh.specs.Cells.{torus}
use Rattle.workpiece.specs.declared.fault.WorkFault.TheVariants.{TooManyDarts}
use Rattle.workpiece.specs.Answers.{split_answer}

-- as split answers of a workpiece over the torus, nothing split yet, with len places handed over
pub record Figures : Type 0 where
  pub torus_256_256 : (len : ℕ) → 1048576 ≤ len → split_answer 0 (torus 256 256).n len ≡ Ok tt
  pub torus_256_512 : (len : ℕ) → split_answer 0 (torus 256 512).n len ≡ Err TooManyDarts
