use Rattle.std.proofs.Common.{◌++◌, drop, Ok, Err, sym, refl, ap, ◌∙◌, subst, inl, inr, arith}
use Rattle.std.proofs.lemmas.Result.{err_from_is_err_and}
use Rattle.closing.specs.declared.fault.SkinFault.TheVariants.{Face, TooMany}
use Rattle.closing.specs.Sheet.{sheet, darts}
use Rattle.closing.specs.Closed.{Closed}
use Rattle.closing.specs.Causes.{places, Lacks}
use Rattle.closing.proofs.Verdicts.{cleared, found_out}
use Rattle.closing.proofs.Outcomes.{Untouched, none_counted, counted, untouched, first_face, too_many, counted_none, counted_some, roomy, cramped, finish, cut_short}
use Rattle.closing.proofs.tables.close.Goals as goal
use Rattle.closing.proofs.tables.close.Goals.{then-corners-size-via-then-corners-size, then-corners-size-via-else-corners-size+then-next-size, then-corners-size-via-else-corners-size+else-next-size+then-prev-size, then-corners-size-via-else-corners-size+else-next-size+else-prev-size+then-twin-size}

pub returns-in_err-none_or : goal.returns-in_err-none_or
returns-in_err-none_or c =
    let s = sheet c.args.points c.args.lengths.now c.args.corners.now in
    let p = err_from_is_err_and c.from_residual.result c.from_residual.ensures.1 in
    let f = found_out Face c.in_err-none_or.field-0.0 c.none_or.ensures c.in_err-none_or.was in
    subst (Untouched s c.args.next.now c.args.prev.now c.args.twin.now) (sym (p.1 ∙ ap Err (p.2 ∙ f.2)))
    (untouched s c.args.next.now c.args.prev.now c.args.twin.now (Face f.0) (first_face s _ _ (f.1 ∙ c.first_odd.ensures)) refl)

pub returns-in_err-n : goal.returns-in_err-n
returns-in_err-n c =
    let s = sheet c.args.points c.args.lengths.now c.args.corners.now in
    let p = err_from_is_err_and c.from_residual-in_err-n.result c.from_residual-in_err-n.ensures.1 in
    let f = none_counted c.count.result TooMany (sym c.ok_or.ensures.value ∙ c.in_err-n.was) in
    subst (Untouched s c.args.next.now c.args.prev.now c.args.twin.now) (sym (p.1 ∙ ap Err (p.2 ∙ f.1)))
    (untouched s c.args.next.now c.args.prev.now c.args.twin.now TooMany (too_many s _ (cleared Face c.none_or.ensures c.in_ok-none_or.was ∙ c.first_odd.ensures)
    (counted_none (darts s) (f.0 ∙ c.count.ensures))) refl)

pub returns-then-corners-size : goal.returns-then-corners-size
returns-then-corners-size c =
    let s = sheet c.args.points c.args.lengths.now c.args.corners.now in
    let n = c.in_ok-n.n in
    let k = counted_some (darts s) n (counted c.count.result TooMany (sym c.ok_or.ensures.value ∙ c.in_ok-n.was) ∙ c.count.ensures) in
    let p = places s c.args.next.now c.args.prev.now c.args.twin.now in
    let w : Lacks n p = elim c.then-corners-size.branch [
      | then-corners-size-via-then-corners-size w ↦ inl w.if-corners-size.true
      | then-corners-size-via-else-corners-size+then-next-size w ↦ inr (inl w.if-next-size.true)
      | then-corners-size-via-else-corners-size+else-next-size+then-prev-size w ↦ inr (inr (inl w.if-prev-size.true))
      | then-corners-size-via-else-corners-size+else-next-size+else-prev-size+then-twin-size w ↦ inr (inr (inr w.if-twin-size.true))
    ] in
    cut_short s c.args.next.now c.args.prev.now c.args.twin.now n k.0 (cleared Face c.none_or.ensures c.in_ok-none_or.was ∙ c.first_odd.ensures) k.1 (cramped n p w)

pub returns-in_err-settle : goal.returns-in_err-settle
returns-in_err-settle c =
    let s = sheet c.args.points c.args.lengths.now c.args.corners.now in
    let n = c.in_ok-n.n in
    let k = counted_some (darts s) n (counted c.count.result TooMany (sym c.ok_or.ensures.value ∙ c.in_ok-n.was) ∙ c.count.ensures) in
    let p = err_from_is_err_and c.from_residual-in_err-settle.result c.from_residual-in_err-settle.ensures.1 in
    let d = finish s c.args.next.now c.args.prev.now c.args.twin.now c.settle.new.next c.settle.new.prev c.settle.new.twin (Err c.in_err-settle.field-0.0) n k.0 (cleared Face c.none_or.ensures c.in_ok-none_or.was ∙ c.first_odd.ensures) k.1
    (roomy n (places s c.args.next.now c.args.prev.now c.args.twin.now) (record { corners = omega arith; next = omega arith; prev = omega arith; twin = omega arith })) c.in_err-settle.ensures.answer c.in_err-settle.ensures.tables in
    subst (λ r. Closed s c.args.next.now c.args.prev.now c.args.twin.now (c.settle.new.next ++ drop n c.args.next.now) (c.settle.new.prev ++ drop n c.args.prev.now) (c.settle.new.twin ++ drop n c.args.twin.now) r) (sym (p.1 ∙ ap Err p.2)) d

pub returns : goal.returns
returns c =
    let s = sheet c.args.points c.args.lengths.now c.args.corners.now in
    let n = c.in_ok-n.n in
    let k = counted_some (darts s) n (counted c.count.result TooMany (sym c.ok_or.ensures.value ∙ c.in_ok-n.was) ∙ c.count.ensures) in
    finish s c.args.next.now c.args.prev.now c.args.twin.now c.settle.new.next c.settle.new.prev c.settle.new.twin (Ok tt) n k.0 (cleared Face c.none_or.ensures c.in_ok-none_or.was ∙ c.first_odd.ensures) k.1
    (roomy n (places s c.args.next.now c.args.prev.now c.args.twin.now) (record { corners = omega arith; next = omega arith; prev = omega arith; twin = omega arith })) c.in_ok-settle.ensures.answer c.in_ok-settle.ensures.tables
