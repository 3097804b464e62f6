-- What the calls of a workpiece answer: the refusals in the order in which they are looked for, or the accepted answer.
use Rattle.std.specs.Prelude.{ℕ, ◌+◌, ◌*◌, cond, ℤ, pos, ◌-ℤ◌, Ok, Err, Result, nat_le, nat_lt}
use Rattle.mesh.specs.Mesh.{Mesh}
use Rattle.mesh.specs.Count.{faces}
use Rattle.skin.specs.Counts.{counting}
use Rattle.skin.specs.declared.count.Counts.{Counts}
use Rattle.workpiece.specs.declared.fault.WorkFault.{WorkFault}
use Rattle.workpiece.specs.declared.fault.WorkFault.TheVariants.{Short, NoDart, TooManyDarts, SplitsSpent, AveragesSpent}

abbrev pub split_answer : ℕ → ℕ → ℕ → Result (Unit {0}) WorkFault
split_answer splits n len =
    cond (nat_lt splits 8) (cond (nat_le (4 * n) 1048576) (cond (nat_le (4 * n) len) (Ok tt) (Err (Short (4 * n)))) (Err TooManyDarts)) (Err SplitsSpent)

abbrev pub average_answer : ℕ → Mesh → ℕ → Result ℕ WorkFault
average_answer averages m len = cond (nat_le m.n len) (cond (nat_lt averages 255) (Ok (faces m)) (Err AveragesSpent)) (Err (Short m.n))

-- what place and read look for, with x for an accepted call
abbrev pub reach_answer : {X : Type 0} → X → ℕ → ℕ → ℕ → Result X WorkFault
reach_answer x n dart len = cond (nat_le n len) (cond (nat_lt dart n) (Ok x) (Err (NoDart dart))) (Err (Short n))

abbrev pub count_answer : Mesh → ℕ → Result Counts WorkFault
count_answer m len = cond (nat_le m.n len) (Ok (counting m)) (Err (Short m.n))

-- a result, with what it holds put through f
abbrev pub ok_mapped : {X Y E : Type 0} → (X → Y) → Result X E → Result Y E
ok_mapped f (Ok x) = Ok (f x)
ok_mapped f (Err e) = Err e

-- a result, without what it holds
abbrev pub done : {X : Type 0} → Result X WorkFault → Result (Unit {0}) WorkFault
done (Ok x) = Ok tt
done (Err e) = Err e

-- vertices less edges plus faces, of what count answered
abbrev pub figure_of : Counts → ℤ
figure_of c = pos (c.vertices + c.faces) -ℤ pos c.edges
