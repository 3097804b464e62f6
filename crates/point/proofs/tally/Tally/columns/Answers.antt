-- A turn finds one column.
use Rattle.std.proofs.Common.{◌<◌, map, length, get_or, set, ℤ, pos, sym, ap, ◌∙◌, arith, length-set}
use Rattle.std.proofs.lemmas.List.{ext_get_or, get_or-map, length-map, map-set}
use Rattle.std.proofs.lemmas.List.Edits.{fill_by_more}
use Rattle.point.specs.Columns.{parts, with_count}
use Rattle.point.specs.Points.{coordinate}
use Rattle.point.proofs.Casts.{back64}
use Rattle.point.proofs.tally.Tally.columns.Goals as goal

pub loop-i-preserved : goal.loop-i-preserved
loop-i-preserved g c =
    let s = c.args.self.now in
    let cs = c.loop-i.columns in
    let i = c.loop-i.i in
    let l : i < length (map parts cs) = rw (length-map cs parts) (omega arith) in (
      length-set cs i _ ∙ c.loop-i.invariant.0,
      λ k b. ap (λ zs. get_or zs k (0, pos 0)) (map-set parts cs i _ ∙ ap (λ (t : ℤ). set (map parts cs) i (s.count, t)) (back64 s.count (coordinate s.totals i) s.few (s.ok i)))
          ∙ fill_by_more (λ j. (s.count, coordinate s.totals j)) (map parts cs) i (0, pos 0) l c.loop-i.invariant.1 k b,
    )

pub returns : goal.returns
returns g c =
    let s = c.args.self.now in
    let inv = c.loop-i.invariant in (
      omega arith,
      ext_get_or (0, pos 0) _ _ (length-map c.loop-i.columns parts ∙ inv.0 ∙ sym (length-map s.totals (with_count s.count) ∙ s.long))
          (λ k l. let b : k < length c.loop-i.columns = rw (sym (length-map c.loop-i.columns parts)) l in inv.1 k (omega arith) ∙ sym (get_or-map (with_count s.count) s.totals k (pos 0) (0, pos 0) (omega arith))),
    )
