-- A turn of the loop is one step more of the run.
use Rattle.std.proofs.Common.{◌≡◌, ℕ, ◌+◌, ◌≤◌, [], ◌∷◌, ◌++◌, length, take, drop, set, sym, ap, ◌∙◌, subst, arith}
use Rattle.std.proofs.lemmas.List.{take_all, take_at, take_more, take_more_set, length-take-le}
use Rattle.std.proofs.lemmas.Slice.{drop-append-drop}
use Rattle.std.proofs.lemmas.Bool.{le-leb, cond-true}
use Rattle.workpiece.specs.Runs.{Ran}
use Rattle.workpiece.proofs.Runs.{ran_more}
use Rattle.workpiece.proofs.piece.Workpiece.run.Goals as goal

pub loop-i-preserved : goal.loop-i-preserved
loop-i-preserved g c =
    let i : ℕ = c.loop-i.i in
    let ss = c.args.steps.now in
    let s = c.index-steps-i.result in
    let a = c.make.result in
    let long : length (take (length ss) c.args.answers.now) ≡ length ss = length-take-le (length ss) c.args.answers.now c.in_ok-room.ensures in
    let more : take (i + 1) ss ≡ take i ss ++ s ∷ [] =
    take_more ss i s (omega (arith, long, c.loop-i-test.true)) ∙ ap (λ x. take i ss ++ x ∷ []) (sym c.index-steps-i.is) in
    let put : take (i + 1) (set c.loop-i.wanted i a) ≡ take i c.loop-i.wanted ++ a ∷ [] = take_more_set c.loop-i.wanted i a (omega arith) in
    let ran = ran_more g.S.Skin g.K.PointKind c.loop-i.invariant c.make.auto.table c.make.ensures in
    subst (λ xs. Ran g.S.Skin g.K.PointKind xs c.args.self.now c.args.table.now (take (i + 1) (set c.loop-i.wanted i a)) c.make.new.self c.make.new.table) (sym more)
    (subst (λ xs. Ran g.S.Skin g.K.PointKind (take i ss ++ s ∷ []) c.args.self.now c.args.table.now xs c.make.new.self c.make.new.table) (sym put) ran)

pub returns : goal.returns
returns g c =
    let i : ℕ = c.loop-i.i in
    let ss = c.args.steps.now in
    let was = c.args.answers.now in
    let fits = c.in_ok-room.ensures in
    let whole : length (take (length ss) was) ≡ length ss = length-take-le (length ss) was fits in
    let long : length c.loop-i.wanted ≡ length ss = c.loop-i.auto.wanted ∙ whole in
    let end : length ss ≤ i = omega (arith, whole, c.loop-i-test.false) in
    record {
      answer = sym (cond-true _ _ _ (le-leb (length ss) (length was) fits));
      accepted = λ _.
          subst (λ xs. Ran g.S.Skin g.K.PointKind xs c.args.self.now c.args.table.now (take (length ss) (c.loop-i.wanted ++ drop (length ss) was)) c.loop-i.self c.loop-i.table) (take_all i ss end)
          (subst (λ xs. Ran g.S.Skin g.K.PointKind (take i ss) c.args.self.now c.args.table.now xs c.loop-i.self c.loop-i.table)
          (take_all i c.loop-i.wanted (omega arith) ∙ sym (take_at c.loop-i.wanted (drop (length ss) was) (length ss) long)) c.loop-i.invariant);
      behind = drop-append-drop (length ss) was c.loop-i.wanted (length ss) (omega arith) long;
      declined = λ l. absurd (omega (arith, fits));
    }
