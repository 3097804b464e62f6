-- What closing answers, and what it leaves in the tables.
use Rattle.std.specs.Prelude.{ℕ, Bool, true, false, cond, ◌||◌, List, ◌++◌, map, length, drop, Some, None, Ok, Err, Option, Result, nat_lt}
use Rattle.std.specs.List.{range_with_len}
use Rattle.std.specs.Option.{option_map}
use Rattle.mesh.specs.Smallest.{smallest}
use Rattle.closing.specs.declared.fault.SkinFault.{SkinFault}
use Rattle.closing.specs.declared.fault.SkinFault.TheVariants.{Text, Face, TooMany, Short, Stray, Twice, Met, Single, Bare, Several, Crowded}
use Rattle.closing.specs.Causes.{Places}
use Rattle.closing.specs.Numbering.{start}
use Rattle.closing.specs.Sheet.{Sheet, darts, odd, stray, twice, met, single, bare, several, crowded}

-- declined for the cause if it is there, and else what follows
unfoldable pub unless : {A : Type 0} → (ℕ → SkinFault) → Option ℕ → Result A SkinFault → Result A SkinFault
unless f (Some x) r = Err (f x)
unless f None r = r

-- 10, and 12 to 17 in their order; a where the sheet has none of them
unfoldable pub judged : {A : Type 0} → Sheet → A → Result A SkinFault
judged s a =
    unless Stray (smallest (darts s) (stray s.points s.corners))
    (unless Twice (option_map (start s.lengths) (smallest (length s.lengths) (twice s)))
    (unless Met (smallest (darts s) (met s))
    (unless Single (smallest (darts s) (single s))
    (unless Bare (smallest s.points (bare s))
    (unless Several (smallest s.points (several s))
    (unless Crowded (smallest s.points (crowded s))
    (Ok a)))))))

-- whether the first n places are set to 0
abbrev pub clears : SkinFault → Bool
clears (Text e) = false
clears (Short places) = false
clears TooMany = false
clears (Stray dart) = true
clears (Face face) = false
clears (Twice dart) = true
clears (Met dart) = true
clears (Single dart) = true
clears (Bare vertex) = true
clears (Several vertex) = true
clears (Crowded vertex) = true

-- one of the tables has fewer than n places
abbrev pub scant : ℕ → Places → Bool
scant n p = nat_lt p.corners n || (nat_lt p.next n || (nat_lt p.prev n || nat_lt p.twin n))

-- 11, then 5, then 1, then the rest
unfoldable pub verdict : Sheet → Places → Result ℕ SkinFault
verdict s p =
    unless Face (smallest (length s.lengths) (odd s.lengths))
    (cond (nat_lt 1048576 (darts s)) (Err TooMany)
    (cond (scant (darts s) p) (Err (Short (darts s)))
    (judged s (darts s))))

-- f on the first n places
abbrev pub front : ℕ → (ℕ → ℕ) → List ℕ → List ℕ
front n f old = map f (range_with_len 0 n) ++ drop n old

-- what a table that is to hold f holds after the answer r: f, or zeros, on the first n places, or what was there at 11, 5 and 1
abbrev pub leaves : ℕ → Result ℕ SkinFault → (ℕ → ℕ) → List ℕ → List ℕ
leaves n (Ok m) f old = front n f old
leaves n (Err y) f old = cond (clears y) (front n (λ _. 0) old) old
