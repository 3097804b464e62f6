use Rattle.std.proofs.Common.{◌≡◌, ℕ, get_or, take, is_ok, Err, sym, refl, ap, ◌∙◌, subst, inl, inr, arith, length-take-le}
use Rattle.std.proofs.lemmas.Bool.{false≢true}
use Rattle.std.proofs.lemmas.List.{get_or_read}
use Rattle.std.proofs.lemmas.Result.{err_from_is_err_and}
use Rattle.closing.specs.declared.fault.SkinFault.TheVariants.{Stray}
use Rattle.closing.proofs.Verdicts.{cleared, found_out}
use Rattle.closing.proofs.Spreading.{spread_more, spread_front, alike, known, too_short, strays, goes}
use Rattle.closing.specs.Spread.{Spread}
use Rattle.closing.proofs.points.spread.Goals as goal
use Rattle.closing.proofs.points.spread.Goals.{then-corners-size-via-then-corners-size, then-corners-size-via-else-corners-size+then-table-size}

pub returns-then-corners-size : goal.returns-then-corners-size
returns-then-corners-size g c = record { answer = too_short _ _ _ _ (elim c.then-corners-size.branch [ then-corners-size-via-then-corners-size w ↦ inl w.if-corners-size.true | then-corners-size-via-else-corners-size+then-table-size w ↦ inr w.if-table-size.true ]); taken = λ e. absurd (false≢true e); rings = λ e. absurd (false≢true e); declined = λ _. refl }

pub returns-in_err-none_or : goal.returns-in_err-none_or
returns-in_err-none_or g c =
    let p = err_from_is_err_and c.from_residual.result c.from_residual.ensures.1 in
    let f = found_out Stray c.in_err-none_or.field-0.0 c.none_or.ensures c.in_err-none_or.was in
    record {
      answer = p.1 ∙ ap Err (p.2 ∙ f.2) ∙ strays _ _ _ _ (omega arith) (omega arith) _ (f.1 ∙ c.first_stray.ensures);
      taken = λ e. absurd (false≢true (ap is_ok (sym p.1) ∙ e));
      rings = λ e. absurd (false≢true (ap is_ok (sym p.1) ∙ e));
      declined = λ _. refl;
    }

pub offset_bounds-points-corners : goal.offset_bounds-points-corners
offset_bounds-points-corners g c =
    let n = length-take-le c.args.n c.args.table.now (omega arith) in
    let k = known c.args.n _ c.args.corners.now (cleared Stray c.none_or.ensures c.in_ok-none_or.was ∙ c.first_stray.ensures) c.loop-h.h (omega arith) in omega arith

pub bounds-points-corners : goal.bounds-points-corners
bounds-points-corners g c =
    let n = length-take-le c.args.n c.args.table.now (omega arith) in
    known c.args.n _ c.args.corners.now (cleared Stray c.none_or.ensures c.in_ok-none_or.was ∙ c.first_stray.ensures) c.loop-h.h (omega arith)

pub loop-h-preserved : goal.loop-h-preserved
loop-h-preserved g c =
    let cs = c.args.corners.now in
    let ps = c.args.points.now in
    let n = length-take-le c.args.n c.args.table.now (omega arith) in
    let k = known c.args.n _ cs (cleared Stray c.none_or.ensures c.in_ok-none_or.was ∙ c.first_stray.ensures) c.loop-h.h (omega arith) in
    spread_more c.loop-h.h cs ps (take c.args.n c.args.table.now) c.loop-h.place-items _ (omega arith) c.loop-h.invariant (get_or_read ps (get_or cs c.loop-h.h 0) c.index-points-corners.result k c.index-points-corners.is)

pub returns : goal.returns
returns g c =
    let n = length-take-le c.args.n c.args.table.now (omega arith) in
    let e : c.loop-h.h ≡ c.args.n = omega arith in
    let front = subst (λ (n : ℕ). Spread n c.args.corners.now c.args.points.now (take c.args.n c.args.table.now) c.loop-h.place-items) e c.loop-h.invariant in
    let full = spread_front c.args.n c.args.corners.now c.args.points.now c.args.table.now c.loop-h.place-items (omega arith) front in
    record {
      answer = goes _ _ _ _ (omega arith) (omega arith) (cleared Stray c.none_or.ensures c.in_ok-none_or.was ∙ c.first_stray.ensures);
      taken = λ _. full;
      rings = λ _. alike _ _ _ _ _ full;
      declined = λ e. absurd (false≢true (sym e));
    }
