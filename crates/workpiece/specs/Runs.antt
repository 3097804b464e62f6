-- Runs: steps made one after the other, each with its own outcome, and the law over a whole run.
use Rattle.std.specs.Prelude.{◌≡◌, ℕ, ◌<◌, ◌≤◌, min, cond, ◌⊎◌, List, [], ◌∷◌, ◌++◌, map, length, take, drop, Ok, Err, Result, nat_le}
use Rattle.mesh.specs.Mesh.{Mesh}
use Rattle.skin.specs.Skins.{mesh}
use Rattle.skin.specs.declared.skin.Skin.{Ghosts}
use Rattle.skin.specs.declared.count.Counts.{Counts}
use Rattle.point.specs.Points.{Point}
use Rattle.point.specs.Kinds.{place}
use Rattle.point.specs.declared.kind.PointKind.{Ghosts as Kind}
use Rattle.workpiece.specs.declared.piece.Workpiece.{Workpiece}
use Rattle.workpiece.specs.declared.piece.Action.{Action}
use Rattle.workpiece.specs.declared.piece.Action.TheVariants as Ac
use Rattle.workpiece.specs.declared.piece.Step.{Step}
use Rattle.workpiece.specs.declared.piece.Answer.{Answer}
use Rattle.workpiece.specs.declared.piece.Answer.TheVariants as An
use Rattle.workpiece.specs.declared.piece.Declined.{Declined}
use Rattle.workpiece.specs.declared.fault.WorkFault.{WorkFault}
use Rattle.workpiece.specs.declared.fault.WorkFault.TheVariants.{Short}
use Rattle.workpiece.specs.Reckoning.{Reckoning, opening, Call, step, steps}
use Rattle.workpiece.specs.Law.{work, Faithful}
use Rattle.workpiece.specs.Calls.{Keeps, Tells, Right, AverageDone, SplitDone, PlaceDone, ReadDone, CountDone}
use Rattle.workpiece.specs.Opening.{Openable, MayOpen, Opened}

-- ---- one step
-- the call that an action makes, with len places handed over
abbrev pub act : {P : Type 0} → (P → Point) → ℕ → Action P → Call
act numbers len Ac.Split = Call.split len
act numbers len Ac.Average = Call.average len
act numbers len (Ac.Place dart p) = Call.place len dart (numbers p)
act numbers len (Ac.Read dart) = Call.read len dart
act numbers len Ac.Count = Call.count len

-- the call that a step makes, of a table of len places
abbrev pub call_of : {P : Type 0} → (P → Point) → ℕ → Step P → Call
call_of numbers len s = act numbers (min s.places len) s.action

-- the outcome of an action's call
abbrev pub Acts : {S A X P Q : Type 0} → Ghosts S → Kind A X P Q → Action P → Workpiece S → List X → Answer P → Workpiece S → List X → Type 0
Acts k kd Ac.Split w t a w' t' = (r : Result (Unit {0}) WorkFault) × (a ≡ An.Split r) × SplitDone k kd w t r w' t'
Acts k kd Ac.Average w t a w' t' = (r : Result ℕ WorkFault) × (a ≡ An.Average r) × AverageDone k kd w t r w' t'
Acts k kd (Ac.Place dart p) w t a w' t' = (r : Result (Unit {0}) WorkFault) × (a ≡ An.Place r) × PlaceDone k kd dart (kd.numbers p) w t r w' t'
Acts {P = P} k kd (Ac.Read dart) w t a w' t' = (r : Result P WorkFault) × (a ≡ An.Read r) × ReadDone k kd dart w t r × (w' ≡ w) × (t' ≡ t)
Acts k kd Ac.Count w t a w' t' = (r : Result Counts WorkFault) × (a ≡ An.Count r) × CountDone k kd w t r × (w' ≡ w) × (t' ≡ t)

-- What a step does: the outcome of its call on the front part of the table; the places behind that stay.
pub record StepDone {S A X P Q : Type 0} (k : Ghosts S) (kd : Kind A X P Q) (s : Step P)
    (w : Workpiece S) (t : List X) (a : Answer P) (w' : Workpiece S) (t' : List X) : Type 0 where
  pub front : List X
  pub acts : Acts k kd s.action w (take (min s.places (length t)) t) a w' front
  pub table : t' ≡ front ++ drop (min s.places (length t)) t
  pub faithful : Keeps kd.width kd.slack (call_of kd.numbers (length t) s) (work k w) (map (place kd) t) (work k w') (map (place kd) t')
  pub told : Tells kd.numbers kd.width kd.slack (call_of kd.numbers (length t) s) a (work k w) (map (place kd) t)

-- ---- a run
-- Steps one after the other, each begun with what the one before it left.
abbrev pub Chain : {S A X P Q : Type 0} → Ghosts S → Kind A X P Q → List (Step P) → Workpiece S → List X → List (Answer P) → Workpiece S → List X → Type 0
Chain k kd [] w t answers w' t' = (answers ≡ []) × (w' ≡ w) × (t' ≡ t)
Chain {S} {A} {X} {P} k kd (s ∷ ss) w t answers w' t' =
    (a : Answer P) × (more : List (Answer P)) × (w₁ : Workpiece S) × (t₁ : List X)
    × (answers ≡ a ∷ more) × StepDone k kd s w t a w₁ t₁ × Chain k kd ss w₁ t₁ more w' t'

-- Each of some calls, made one after the other from a reckoning on, is answered as the reckoning of the calls before it tells.
abbrev pub Answered : {P : Type 0} → (P → Point) → ℕ → ℕ → Reckoning → List Call → List (Answer P) → Type 0
Answered numbers d slack R [] answers = answers ≡ []
Answered {P} numbers d slack R (c ∷ cs) answers =
    (a : Answer P) × (more : List (Answer P)) × (answers ≡ a ∷ more) × Right numbers d slack R c a × Answered numbers d slack (step R c) cs more

-- What a run does. Whatever the history was: a workpiece and table that were faithful to the reckoning of it are faithful to that of the
-- history with all these calls, and every call is answered as it tells.
pub record Ran {S A X P Q : Type 0} (k : Ghosts S) (kd : Kind A X P Q) (ss : List (Step P))
    (w : Workpiece S) (t : List X) (answers : List (Answer P)) (w' : Workpiece S) (t' : List X) : Type 0 where
  pub chain : Chain k kd ss w t answers w' t'
  pub long : length t' ≡ length t
  pub faithful : (R : Reckoning) (rest : List Point) → Faithful kd.width kd.slack R (work k w) (map (place kd) t ++ rest)
      → Faithful kd.width kd.slack (steps R (map (call_of kd.numbers (length t)) ss)) (work k w') (map (place kd) t' ++ rest)
  pub told : (R : Reckoning) (rest : List Point) → Faithful kd.width kd.slack R (work k w) (map (place kd) t ++ rest)
      → Answered kd.numbers kd.width kd.slack R (map (call_of kd.numbers (length t)) ss) answers

-- What `run` does: with fewer places for answers than steps it is declined and nothing changes.
pub record RunDone {S A X P Q : Type 0} (k : Ghosts S) (kd : Kind A X P Q) (ss : List (Step P)) (w : Workpiece S) (t : List X) (answers : List (Answer P))
    (r : Result (Unit {0}) WorkFault) (w' : Workpiece S) (t' : List X) (answers' : List (Answer P)) : Type 0 where
  pub answer : r ≡ cond (nat_le (length ss) (length answers)) (Ok tt) (Err (Short (length ss)))
  pub accepted : length ss ≤ length answers → Ran k kd ss w t (take (length ss) answers') w' t'
  pub behind : drop (length ss) answers' ≡ drop (length ss) answers
  pub declined : length answers < length ss → (w' ≡ w) × (t' ≡ t) × (answers' ≡ answers)

-- ---- opening and running
-- The law from the opening on: the workpiece and its table are faithful to the reckoning of the opening and all the calls, and every call
-- is answered as it tells.
pub record CarriedOut {S A X P Q : Type 0} (k : Ghosts S) (kd : Kind A X P Q) (ss : List (Step P))
    (skin : S) (t : List X) (answers : List (Answer P)) (w : Workpiece S) (t' : List X) : Type 0 where
  pub openable : Openable (mesh k skin) (map (place kd) t)
  pub fresh : Workpiece S
  pub opened : Opened k skin fresh
  pub ran : Ran k kd ss fresh t answers w t'
  pub faithful : Faithful kd.width kd.slack (steps (opening (mesh k skin) (map (place kd) t)) (map (call_of kd.numbers (length t)) ss)) (work k w) (map (place kd) t')
  pub told : Answered kd.numbers kd.width kd.slack (opening (mesh k skin) (map (place kd) t)) (map (call_of kd.numbers (length t)) ss) answers

-- what an opening with a run is declined for: what the opening is, or else too few places for the answers
abbrev pub Declines : Mesh → List Point → ℕ → ℕ → WorkFault → Type 0
Declines m t wanted places f = MayOpen m t (Err f) ⊎ (Openable m t × (places < wanted) × (f ≡ Short wanted))

-- Carried out; or declined for its fault, with a new workpiece over the skin and no place and no answer changed.
abbrev pub WholeLaw : {S A X P Q : Type 0} → Ghosts S → Kind A X P Q → List (Step P) → S → List X → List (Answer P)
    → Result (Workpiece S) (Declined S) → List X → List (Answer P) → Type 0
WholeLaw k kd ss skin t answers (Ok w) t' answers' =
    CarriedOut k kd ss skin t (take (length ss) answers') w t' × (length ss ≤ length answers) × (drop (length ss) answers' ≡ drop (length ss) answers)
WholeLaw k kd ss skin t answers (Err d) t' answers' =
    Opened k skin d.piece × Declines (mesh k skin) (map (place kd) t) (length ss) (length answers) d.fault × (t' ≡ t) × (answers' ≡ answers)
