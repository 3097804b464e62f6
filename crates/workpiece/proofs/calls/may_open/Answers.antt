-- The first dart that differs from its turn, if there is one.
use Rattle.std.proofs.Common.{ℕ, ◌<◌, ◌≤◌, map, Some, None, arith, rules}
use Rattle.std.proofs.lemmas.List.{length-map}
use Rattle.std.proofs.lemmas.Iterator.{first_from_Range}
use borrow.Author.Tests.{tests}
use Rattle.skin.specs.Skins.{mesh}
use Rattle.point.specs.Kinds.{place as placing}
use Rattle.workpiece.specs.Opening.{Agreeing, Differing}
use Rattle.workpiece.proofs.calls.may_open.Goals as goal

pub returns-in-Some : goal.returns-in-Some
returns-in-Some g c =
    let m = mesh g.S.Skin c.args.skin.now in
    let t = map (placing g.K.PointKind) c.args.table.now in
    let h : ℕ = c.in-Some.h in
    let first : (0 ≤ h) × (h < c.n-n.result) × Differing m t h × ((k : ℕ) → 0 ≤ k → k < h → Agreeing m t k) =
    first_from_Range _ _ _ (Some h) (Differing m t) (Agreeing m t) c.in-Some.ensures.ran (λ x q k. search (rules, tests)) (λ x q k. search (rules, tests)) in
    (rw (length-map c.args.table.now (placing g.K.PointKind)) (omega arith), omega arith, λ k l. first.3 k (omega arith) l, first.2)

pub returns-in-None : goal.returns-in-None
returns-in-None g c =
    let m = mesh g.S.Skin c.args.skin.now in
    let t = map (placing g.K.PointKind) c.args.table.now in
    let all : (k : ℕ) → 0 ≤ k → k < c.n-n.result → Agreeing m t k =
    first_from_Range _ _ _ None (Differing m t) (Agreeing m t) c.in-None.ensures.ran (λ x q k. search (rules, tests)) (λ x q k. search (rules, tests)) in
    record {
      fits = rw (length-map c.args.table.now (placing g.K.PointKind)) (omega arith);
      agree = λ h l. all h (omega arith) (omega arith);
    }
