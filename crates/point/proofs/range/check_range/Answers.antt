-- The number found is the first out of range.
use Rattle.std.proofs.Common.{◌≡◌, ℕ, ◌+◌, List, [], ◌∷◌, not, Bool, true, false, cond, ℤ, Some, Option, refl, sym, ap, ◌∙◌, rules}
use Rattle.std.specs.List.{position_from}
use Rattle.std.specs.Option.{option_map}
use Rattle.std.proofs.lemmas.Iterator.{YieldsList-from_slice}
use Rattle.std.proofs.lemmas.Iterator.Adapters.{position_from-zero}
use Rattle.std.proofs.lemmas.Iterator.Search.{position_from_yields_List}
use Rattle.point.specs.declared.fault.PointFault.{PointFault}
use Rattle.point.specs.declared.fault.PointFault.TheVariants.{OutOfRange}
use Rattle.point.specs.Range.{in_range}
use Rattle.point.specs.Made.{range_fault}
use Rattle.point.proofs.range.check_range.Goals as goal

abbrev outside : ℤ → Bool
outside z = not (in_range z)

-- one number more in front
more : (k : ℕ) (b : Bool) (o : Option ℕ) {r : Option PointFault} → r ≡ option_map OutOfRange o → cond b r (Some (OutOfRange k)) ≡ option_map OutOfRange (cond (not b) (Some k) o)
more k true o e = e
more k false o e = refl

-- what a search finds in numbers that count from k
first_outside : (k : ℕ) (zs : List ℤ) → range_fault k zs ≡ option_map OutOfRange (position_from outside k zs)
first_outside k [] = refl
first_outside k (z ∷ zs) = more k (in_range z) _ (first_outside (k + 1) zs)

pub returns-in-Some : goal.returns-in-Some
returns-in-Some c =
    let zs = c.args.numbers.now in
    let e = position_from_yields_List outside _ _ c.position.result c.position.ensures.ran (YieldsList-from_slice zs (search rules)) (λ x b q k. search rules) ∙ position_from-zero outside zs in
    ap (option_map OutOfRange) (sym c.in-Some.is ∙ e) ∙ sym (first_outside 0 zs)

pub returns-in-None : goal.returns-in-None
returns-in-None c =
    let zs = c.args.numbers.now in
    let e = position_from_yields_List outside _ _ c.position.result c.position.ensures.ran (YieldsList-from_slice zs (search rules)) (λ x b q k. search rules) ∙ position_from-zero outside zs in
    ap (option_map OutOfRange) (sym c.in-None.is ∙ e) ∙ sym (first_outside 0 zs)
