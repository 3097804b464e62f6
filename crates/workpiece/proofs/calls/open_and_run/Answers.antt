-- The law starts at the opening, and the run carries it on.
use Rattle.std.proofs.Common.{ℕ, [], map, length, sym, subst, inr, append-nil}
use Rattle.skin.specs.Skins.{mesh}
use Rattle.point.specs.Kinds.{place as placing}
use Rattle.workpiece.specs.Reckoning.{opening, steps}
use Rattle.workpiece.specs.Law.{work, Faithful}
use Rattle.workpiece.specs.Opening.{MayOpen, Openable, Opened}
use Rattle.workpiece.specs.Runs.{call_of}
use Rattle.workpiece.proofs.Runs.{run_ok, run_err}
use Rattle.workpiece.proofs.calls.open_and_run.Goals as goal

pub returns-in-Ok : goal.returns-in-Ok
returns-in-Ok g c =
    let d : ℕ = g.K.PointKind.width in
    let slack : ℕ = g.K.PointKind.slack in
    let point = placing g.K.PointKind in
    let m = mesh g.S.Skin c.args.skin in
    let t = map point c.args.table.now in
    let calls = map (call_of g.K.PointKind.numbers (length c.args.table.now)) c.args.steps.now in
    let o : Openable m t = subst (MayOpen m t) c.in_default.is c.may_open.ensures in
    let fits = run_ok (length c.args.steps.now) (length c.args.answers.now) c.run.result c.in-Ok.field-0 c.run.ensures.answer c.in-Ok.is in
    let ran = c.run.ensures.accepted fits in
    let start = c.open-piece-2.ensures.faithful d slack t [] o in (
      record {
        openable = o;
        fresh = c.open-piece-2.result;
        opened = c.open-piece-2.ensures;
        ran = ran;
        faithful = subst (Faithful d slack (steps (opening m t) calls) (work g.S.Skin c.run.new.self)) (append-nil (map point c.run.new.table)) (ran.faithful (opening m t) [] start);
        told = ran.told (opening m t) [] start;
      },
      fits,
      c.run.ensures.behind,
    )

pub returns-in-Err-run : goal.returns-in-Err-run
returns-in-Err-run g c =
    let m = mesh g.S.Skin c.args.skin in
    let t = map (placing g.K.PointKind) c.args.table.now in
    let o : Openable m t = subst (MayOpen m t) c.in_default.is c.may_open.ensures in
    let short = run_err (length c.args.steps.now) (length c.args.answers.now) c.run.result c.in-Err-run.fault c.run.ensures.answer c.in-Err-run.is in
    let same = c.run.ensures.declined short.0 in
    (subst (Opened g.S.Skin c.args.skin) (sym same.0) c.open-piece-2.ensures, inr (o, short.0, short.1), same.1, same.2)
