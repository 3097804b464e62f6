use Rattle.std.proofs.Common.{◌≡◌, ◌∙◌, min, List, drop, map, Option, sym, subst, rules, tests}
use Rattle.std.specs.List.{filter, zip, reduce}
use Rattle.std.specs.Option.{option_map}
use Rattle.std.proofs.lemmas.Iterator.{YieldsList, YieldsList-from_slice, YieldsList-from_map, YieldsList-from_zip}
use Rattle.std.proofs.lemmas.Iterator.Adapters.{YieldsList-from_skip}
use Rattle.std.proofs.lemmas.Iterator.Consumers.{YieldsList-from_filter, min_from_yields_List}
use Rattle.closing.specs.Whole.{whole}
use Rattle.closing.proofs.Scans.{itself}
use Rattle.closing.proofs.Neighbours.{Lowest, lowest}
use Rattle.closing.proofs.EdgeOrder.{alike_ends, first_like}
use Rattle.closing.proofs.edges.Edges.first_met.Goals as goal

moved : {S A B : Type 0} {steps : S → Option A → S → Type 0} {v : A → B} {s t : S} {ys : List B} → s ≡ t → YieldsList steps v t ys → YieldsList steps v s ys
moved {steps = steps} {v = v} {ys = ys} e y = subst (λ i. YieldsList steps v i ys) (sym e) y

pub returns : goal.returns
returns c =
    let e = c.args.self.now in
    let s = whole e.sheet in
    let xs = e.order.now in
    let same = alike_ends s.corners e.next.now in
    let r : option_map (λ x. x) c.min.result ≡ reduce min (map (λ p. p.1) (filter same (zip xs (drop 1 xs)))) =
    min_from_yields_List _ c.min.result c.min.ensures.ran
    (YieldsList-from_map _ (λ p. p.1)
    (moved c.map.ensures.source
    (YieldsList-from_filter _ same
    (moved c.filter-met.ensures.source
    (YieldsList-from_zip
    (moved c.zip-pairs.ensures.first (YieldsList-from_slice xs c.iter.ensures.rest))
    (moved c.zip-pairs.ensures.second (YieldsList-from_skip 1 (moved c.skip.ensures.source (YieldsList-from_slice xs c.iter-2.ensures.rest)) c.skip.ensures.count))))
    c.filter-met.ensures.closure (λ x b q k. search (rules, tests))))
    c.map.ensures.closure (λ x r q k. search rules)) in
    first_like s e.next.now xs e.laid e.ordered c.min.result (subst (Lowest same xs) (sym r ∙ itself c.min.result) (lowest same xs))
