-- Each total is 0.
use Rattle.std.proofs.Common.{pos}
use Rattle.std.proofs.lemmas.List.{length-replicate, get_or-replicate}
use Rattle.std.proofs.lemmas.List.FromFn.{fill_by_all}
use Rattle.point.proofs.tally.Tally.empty.Goals as goal

pub returns-clause-totals : goal.returns-clause-totals
returns-clause-totals g c = fill_by_all (λ _. pos 0) _ g.row.N (pos 0) (length-replicate g.row.N (pos 0)) (λ k l. get_or-replicate g.row.N k (pos 0) (pos 0) l)
