-- `units` meets its contract: the outcome is the computed one, and so the rule's.
use Rattle.std.proofs.Common.{◌≡◌, Bool, true, false, Ok, sym, ap, ◌∙◌}
use lib.Ieee.{Float, ne, binary64}
use Rattle.std.specs.Float.{trunc}
use Rattle.order.proofs.Scaling.{product}
use Rattle.order.proofs.Whole.{through_bits}
use Rattle.order.proofs.Back.{computed}
use Rattle.order.proofs.Meaning.{nan_is, below_least, above_most, Within, off, nothing, in_cast, cast}
use Rattle.order.proofs.scale.units.Goals as goal
use Rattle.order.proofs.scale.units.Goals.{then-mm-via-then-mm, then-mm-via-else-mm+then-mm-2}

pub returns-then-is_nan : goal.returns-then-is_nan
returns-then-is_nan c = computed c.args.mm _ (nan_is c.args.mm (sym c.is_nan.ensures.value ∙ c.if-is_nan.true))

pub returns-then-mm : goal.returns-then-mm
returns-then-mm c =
    elim c.then-mm.branch [
      | then-mm-via-then-mm w ↦ computed c.args.mm _ (below_least c.args.mm w.if-mm.true)
      | then-mm-via-else-mm+then-mm-2 w ↦ computed c.args.mm _ (above_most c.args.mm w.if-mm-2.true)
    ]

-- what the test of the cut product says of it
cut : (x t : Float) (b : Bool) → t ≡ trunc binary64 (product x) → ne t (product x) ≡ b → ne (trunc binary64 (product x)) (product x) ≡ b
cut x t b e h = ap (λ (y : Float). ne y (product x)) (sym e) ∙ h

pub returns-then-trunc-scaled : goal.returns-then-trunc-scaled
returns-then-trunc-scaled c =
    let x = c.args.mm in
    let w : Within x = record { held = c.well_formed.0.1; number = sym c.if-is_nan.ensures.value; low = c.if-mm.false; high = c.if-mm-2.false } in
    computed x _ (off x w (cut x c.trunc.result true c.trunc.ensures c.if-trunc-scaled.true))

pub returns-then-scaled : goal.returns-then-scaled
returns-then-scaled c =
    let x = c.args.mm in
    let w : Within x = record { held = c.well_formed.0.1; number = sym c.if-is_nan.ensures.value; low = c.if-mm.false; high = c.if-mm-2.false } in
    computed x _ (nothing x w (cut x c.trunc.result false c.trunc.ensures c.if-trunc-scaled.false) c.if-scaled.true)

pub float_to_int-result : goal.float_to_int-result
float_to_int-result c =
    let x = c.args.mm in
    let w : Within x = record { held = c.well_formed.0.1; number = sym c.if-is_nan.ensures.value; low = c.if-mm.false; high = c.if-mm-2.false } in
    in_cast x w (cut x c.trunc.result false c.trunc.ensures c.if-trunc-scaled.false) c.if-scaled.false

pub returns : goal.returns
returns c =
    let x = c.args.mm in
    let w : Within x = record { held = c.well_formed.0.1; number = sym c.if-is_nan.ensures.value; low = c.if-mm.false; high = c.if-mm-2.false } in
    computed x _ (cast x w (cut x c.trunc.result false c.trunc.ensures c.if-trunc-scaled.false) c.if-scaled.false ∙ ap Ok (sym (through_bits (product x))))
