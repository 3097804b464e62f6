-- The worked figures, each computed, at the literals of the code and at the nearest floats.
use Rattle.std.proofs.Common.{◌≡◌, ℤ, pos, Ok, Err, Result, refl, subst}
use lib.Ieee.{Float, binary64, round, of_bits}
use Rattle.refusal.specs.declared.Refusal.{Refusal}
use Rattle.refusal.specs.Refusals.{with}
use Rattle.order.specs.declared.fault.ScaleFault.{ScaleFault}
use Rattle.order.specs.declared.fault.ScaleFault.TheVariants.{Beyond, OffGrid}
use Rattle.order.specs.declared.fault.OrderFault.TheVariants.{Value}
use Rattle.order.specs.Scale.{Measured}
use Rattle.order.specs.Refusals.{refusal_of}
use Rattle.order.specs.Figures.{Told, nearest_to}
use Rattle.order.proofs.Meaning.{units_of, measured}
use Rattle.order.proofs.Back.{measured_one}
use Rattle.order.proofs.figures_stand.Goals as goal

told_one : (x : Float) (q r : Result ℤ Refusal) → Told x q → Told x r → q ≡ r
told_one x (Ok u) (Ok v) a b = let e = measured_one x (Ok u) (Ok v) a b in cc
told_one x (Ok u) (Err r) a b = let e = measured_one x (Ok u) (Err b.0) a b.1 in cc
told_one x (Err r) (Ok u) a b = let e = measured_one x (Err a.0) (Ok u) a.1 b in cc
told_one x (Err q) (Err r) a b = let e = measured_one x (Err a.0) (Err b.0) a.1 b.1 in cc

told_ok : (x : Float) (u : ℤ) → units_of x ≡ Ok u → Told x (Ok u)
told_ok x u e = subst (Measured x) e (measured x)

told_err : (x : Float) (f : ScaleFault) → units_of x ≡ Err f → Told x (Err (refusal_of (Value 0 f)))
told_err x f e = (f, subst (Measured x) e (measured x), refl)

-- the literals 0.5, 16384.0, 0.1 and 16384.5
abbrev half : Float
half = of_bits binary64 0x3fe0_0000_0000_0000

abbrev limit : Float
limit = of_bits binary64 0x40d0_0000_0000_0000

abbrev tenth : Float
tenth = of_bits binary64 0x3fb9_9999_9999_999a

abbrev beyond : Float
beyond = of_bits binary64 0x40d0_0020_0000_0000

pub returns : goal.returns
unfolding of_bits nearest_to round
returns c =
    let a : c.told.result ≡ Ok (pos 512) = told_one half c.told.result (Ok (pos 512)) c.told.ensures (told_ok half (pos 512) refl) in
    let b : c.told-2.result ≡ Ok (pos 16777216) = told_one limit c.told-2.result (Ok (pos 16777216)) c.told-2.ensures (told_ok limit (pos 16777216) refl) in
    let d : c.told-3.result ≡ Err (with 18 0) = told_one tenth c.told-3.result (Err (with 18 0)) c.told-3.ensures (told_err tenth OffGrid refl) in
    let e : c.told-4.result ≡ Err (with 3 0) = told_one beyond c.told-4.result (Err (with 3 0)) c.told-4.ensures (told_err beyond Beyond refl) in
    record {
      run = cc;
      rule = record {
        half = told_ok (nearest_to 1 2) (pos 512) refl;
        limit = told_ok (nearest_to 16384 1) (pos 16777216) refl;
        tenth = told_err (nearest_to 1 10) OffGrid refl;
        beyond = told_err (nearest_to 32769 2) Beyond refl;
      };
    }
