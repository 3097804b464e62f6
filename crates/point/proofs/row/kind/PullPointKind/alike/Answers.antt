-- Rows are alike where their weights are the same.
use Rattle.std.proofs.lemmas.Slice.Eq.{slice_eq-Decides}
use Rattle.point.proofs.row.kind.PullPointKind.alike.Goals as goal
use Rattle.std.proofs.lemmas.Bool.Decides.{Decides-int_eq}

pub returns : goal.returns
returns c = slice_eq-Decides Decides-int_eq _ _ _ c.eq.ensures
