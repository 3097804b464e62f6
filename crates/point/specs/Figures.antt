-- Worked figures of the two kinds.
use Rattle.std.specs.Prelude.{◌≡◌, ℕ, List, [], ◌∷◌, ℤ, pos, negsuc}
use Rattle.point.specs.Points.{coordinate, totals}
use Rattle.point.specs.Dealing.{handle_count}
use Rattle.point.specs.Solids as solid
use Rattle.point.specs.Rows as row

-- the mean of k coordinates of total s
abbrev pub solid_mean : ℕ → ℤ → ℤ
solid_mean k s = coordinate (solid.numbers_of (solid.mean_by k (s ∷ []))) 0

-- the weights of the mean of three rows, each with all weight on one handle
abbrev pub row_mean : ℕ → ℕ → ℕ → List ℤ
row_mean a b c =
    let weights = λ (handle : ℕ). row.numbers_of (row.row_at (row.all_on handle)) in
    row.numbers_of (row.mean_by 3 (totals handle_count (weights a ∷ (weights b ∷ (weights c ∷ [])))))

pub record Figures : Type 0 where
  pub minus_seven_of_two : solid_mean 2 (negsuc 6) ≡ negsuc 2
  pub five_of_three : solid_mean 3 (pos 5) ≡ pos 2
  pub minus_five_of_three : solid_mean 3 (negsuc 4) ≡ negsuc 1
  -- the handles are counted from 0
  pub three_handles : row_mean 0 1 2 ≡ pos 21846 ∷ (pos 21845 ∷ (pos 21845 ∷ (pos 0 ∷ [])))
