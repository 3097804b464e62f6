-- A step with the front part of a table, and steps in a row.
use Rattle.std.proofs.Common.{◌≡◌, ℕ, ◌<◌, ◌≤◌, min, Bool, true, false, cond, leb, List, [], ◌∷◌, ◌++◌, map, length, take, drop, Ok, Err, Result, sym, refl, ap, ◌∙◌, subst, arith}
use Rattle.std.proofs.lemmas.List.{take-append-drop, map-append, append_assoc, length-take}
use Rattle.std.proofs.lemmas.Bool.{leb-true, leb-false}
use Rattle.skin.specs.declared.skin.Skin.{Ghosts}
use Rattle.point.specs.Points.{Point}
use Rattle.point.specs.Kinds.{place}
use Rattle.point.specs.declared.kind.PointKind.{Ghosts as Kind}
use Rattle.workpiece.specs.declared.fault.WorkFault.{WorkFault}
use Rattle.workpiece.specs.declared.fault.WorkFault.TheVariants.{Short}
use Rattle.workpiece.specs.declared.piece.Workpiece.{Workpiece}
use Rattle.workpiece.specs.declared.piece.Action.{Action}
use Rattle.workpiece.specs.declared.piece.Action.TheVariants as Ac
use Rattle.workpiece.specs.declared.piece.Step.{Step}
use Rattle.workpiece.specs.declared.piece.Answer.{Answer}
use Rattle.workpiece.specs.Reckoning.{Reckoning, Call, step, steps}
use Rattle.workpiece.specs.Law.{Work, work, Faithful}
use Rattle.workpiece.specs.Calls.{Keeps, Tells, Right}
use Rattle.workpiece.specs.Runs.{act, call_of, Acts, StepDone, Chain, Answered, Ran}

-- ---- a front part of the table
joined : {X : Type 0} (point : X → Point) (front back : List X) (rest : List Point) → map point (front ++ back) ++ rest ≡ map point front ++ (map point back ++ rest)
joined point front back rest = ap (λ xs. xs ++ rest) (map-append point front back) ∙ append_assoc (map point front) (map point back) rest

parted : {X : Type 0} (point : X → Point) (n : ℕ) (t : List X) (rest : List Point) → map point t ++ rest ≡ map point (take n t) ++ (map point (drop n t) ++ rest)
parted point n t rest = ap (λ xs. map point xs ++ rest) (sym (take-append-drop n t)) ∙ joined point (take n t) (drop n t) rest

front_keeps : {X : Type 0} (point : X → Point) (d slack : ℕ) (call : Call) (w w' : Work) (n : ℕ) (t front : List X)
    → Keeps d slack call w (map point (take n t)) w' (map point front) → Keeps d slack call w (map point t) w' (map point (front ++ drop n t))
front_keeps point d slack call w w' n t front keeps R rest faith =
    subst (Faithful d slack (step R call) w') (sym (joined point front (drop n t) rest))
    (keeps R (map point (drop n t) ++ rest) (subst (Faithful d slack R w) (parted point n t rest) faith))

front_tells : {X P : Type 0} (numbers : P → Point) (point : X → Point) (d slack : ℕ) (call : Call) (w : Work) (n : ℕ) (t : List X) (a : Answer P)
    → Tells numbers d slack call a w (map point (take n t)) → Tells numbers d slack call a w (map point t)
front_tells numbers point d slack call w n t a tells R rest faith =
    tells R (map point (drop n t) ++ rest) (subst (Faithful d slack R w) (parted point n t rest) faith)

-- ---- one step
module _ {S A X P Q : Type 0} (k : Ghosts S) (kd : Kind A X P Q) where
  unchanged : (w : Workpiece S) (t : List X) (w' : Workpiece S) (t' : List X) → w' ≡ w → t' ≡ t → (R : Reckoning) (rest : List Point)
      → Faithful kd.width kd.slack R (work k w) (map (place kd) t ++ rest) → Faithful kd.width kd.slack R (work k w') (map (place kd) t' ++ rest)
  unchanged w t w' t' ew et R rest faith =
      subst (λ v. Faithful kd.width kd.slack R (work k v) (map (place kd) t' ++ rest)) (sym ew)
      (subst (λ u. Faithful kd.width kd.slack R (work k w) (map (place kd) u ++ rest)) (sym et) faith)

  -- the law, carried on by whichever call an action makes
  acts_keep : (x : Action P) (w : Workpiece S) (t : List X) (a : Answer P) (w' : Workpiece S) (t' : List X) → Acts k kd x w t a w' t'
      → Keeps kd.width kd.slack (act kd.numbers (length t) x) (work k w) (map (place kd) t) (work k w') (map (place kd) t')
  acts_keep Ac.Split w t a w' t' e = e.2.faithful
  acts_keep Ac.Average w t a w' t' e = e.2.faithful
  acts_keep (Ac.Place dart p) w t a w' t' e = e.2.faithful
  acts_keep (Ac.Read dart) w t a w' t' e = unchanged w t w' t' e.3 e.4
  acts_keep Ac.Count w t a w' t' e = unchanged w t w' t' e.3 e.4

  acts_tell : (x : Action P) (w : Workpiece S) (t : List X) (a : Answer P) (w' : Workpiece S) (t' : List X) → Acts k kd x w t a w' t'
      → Tells kd.numbers kd.width kd.slack (act kd.numbers (length t) x) a (work k w) (map (place kd) t)
  acts_tell Ac.Split w t a w' t' e R rest faith = subst (Right kd.numbers kd.width kd.slack R (Call.split (length t))) (sym e.1) (e.2.told R rest faith)
  acts_tell Ac.Average w t a w' t' e R rest faith = subst (Right kd.numbers kd.width kd.slack R (Call.average (length t))) (sym e.1) (e.2.told R rest faith)
  acts_tell (Ac.Place dart p) w t a w' t' e R rest faith = subst (Right kd.numbers kd.width kd.slack R (Call.place (length t) dart (kd.numbers p))) (sym e.1) (e.2.told R rest faith)
  acts_tell (Ac.Read dart) w t a w' t' e R rest faith = subst (Right kd.numbers kd.width kd.slack R (Call.read (length t) dart)) (sym e.1) (e.2.told R rest faith)
  acts_tell Ac.Count w t a w' t' e R rest faith = subst (Right kd.numbers kd.width kd.slack R (Call.count (length t))) (sym e.1) (e.2.told R rest faith)

  whole_step : (s : Step P) (w w' : Workpiece S) (t front : List X) (a : Answer P)
      → Acts k kd s.action w (take (min s.places (length t)) t) a w' front → StepDone k kd s w t a w' (front ++ drop (min s.places (length t)) t)
  whole_step s w w' t front a acts =
      let n : ℕ = min s.places (length t) in
      let long : length (take n t) ≡ n = omega (arith, length-take n t) in
      record {
        front = front;
        acts = acts;
        table = refl;
        faithful = front_keeps (place kd) kd.width kd.slack (call_of kd.numbers (length t) s) (work k w) (work k w') n t front
            (subst (λ j. Keeps kd.width kd.slack (act kd.numbers j s.action) (work k w) (map (place kd) (take n t)) (work k w') (map (place kd) front)) long
            (acts_keep s.action w (take n t) a w' front acts));
        told = front_tells kd.numbers (place kd) kd.width kd.slack (call_of kd.numbers (length t) s) (work k w) n t a
            (subst (λ j. Tells kd.numbers kd.width kd.slack (act kd.numbers j s.action) a (work k w) (map (place kd) (take n t))) long
            (acts_tell s.action w (take n t) a w' front acts));
      }

  pub step_done : (s : Step P) (x : Action P) (w w' : Workpiece S) (n : ℕ) (t front : List X) (a : Answer P)
      → n ≡ min s.places (length t) → s.action ≡ x → Acts k kd x w (take n t) a w' front → StepDone k kd s w t a w' (front ++ drop n t)
  step_done s x w w' n t front a e is acts =
      subst (λ j. StepDone k kd s w t a w' (front ++ drop j t)) (sym e)
      (whole_step s w w' t front a (subst (λ y. Acts k kd y w (take (min s.places (length t)) t) a w' front) (sym is)
      (subst (λ j. Acts k kd x w (take j t) a w' front) e acts)))

-- ---- steps in a row
steps_push : (R : Reckoning) (cs : List Call) (c : Call) → steps R (cs ++ c ∷ []) ≡ step (steps R cs) c
steps_push R [] c = refl
steps_push R (x ∷ cs) c = steps_push (step R x) cs c

answered_more : {P : Type 0} (numbers : P → Point) (d slack : ℕ) (cs : List Call) (call : Call) (answers : List (Answer P)) (a : Answer P) (R : Reckoning)
    → Answered numbers d slack R cs answers → Right numbers d slack (steps R cs) call a → Answered numbers d slack R (cs ++ call ∷ []) (answers ++ a ∷ [])
answered_more numbers d slack [] call answers a R e r = (a, [], ap (λ xs. xs ++ a ∷ []) e, r, refl)
answered_more numbers d slack (c ∷ cs) call answers a R e r =
    (e.0, e.1 ++ a ∷ [], ap (λ xs. xs ++ a ∷ []) e.2, e.3, answered_more numbers d slack cs call e.1 a (step R c) e.4 r)

module _ {S A X P Q : Type 0} (k : Ghosts S) (kd : Kind A X P Q) where
  chain_more : (ss : List (Step P)) (s : Step P) (w w' w'' : Workpiece S) (t t' t'' : List X) (answers : List (Answer P)) (a : Answer P)
      → Chain k kd ss w t answers w' t' → StepDone k kd s w' t' a w'' t'' → Chain k kd (ss ++ s ∷ []) w t (answers ++ a ∷ []) w'' t''
  chain_more [] s w w' w'' t t' t'' answers a c d = (
    a,
    [],
    w'',
    t'',
    ap (λ xs. xs ++ a ∷ []) c.0,
    subst (λ v. StepDone k kd s v t a w'' t'') c.1 (subst (λ u. StepDone k kd s w' u a w'' t'') c.2 d),
    (refl, refl, refl),
  )
  chain_more (x ∷ ss) s w w' w'' t t' t'' answers a c d =
      (c.0, c.1 ++ a ∷ [], c.2, c.3, ap (λ xs. xs ++ a ∷ []) c.4, c.5, chain_more ss s c.2 w' w'' c.3 t' t'' c.1 a c.6 d)

  pub ran_more : {ss : List (Step P)} {s : Step P} {w w' w'' : Workpiece S} {t t' t'' : List X} {answers : List (Answer P)} {a : Answer P}
      → Ran k kd ss w t answers w' t' → length t'' ≡ length t' → StepDone k kd s w' t' a w'' t'' → Ran k kd (ss ++ s ∷ []) w t (answers ++ a ∷ []) w'' t''
  ran_more {ss} {s} {w} {w'} {w''} {t} {t'} {t''} {answers} {a} ran long one =
      let f : Step P → Call = call_of kd.numbers (length t) in
      let calls : map f (ss ++ s ∷ []) ≡ map f ss ++ f s ∷ [] = map-append f ss (s ∷ []) in
      let keeps = subst (λ n. Keeps kd.width kd.slack (call_of kd.numbers n s) (work k w') (map (place kd) t') (work k w'') (map (place kd) t'')) ran.long one.faithful in
      let tells = subst (λ n. Tells kd.numbers kd.width kd.slack (call_of kd.numbers n s) a (work k w') (map (place kd) t')) ran.long one.told in
      record {
        chain = chain_more ss s w w' w'' t t' t'' answers a ran.chain one;
        long = long ∙ ran.long;
        faithful = λ R rest faith.
            subst (λ cs. Faithful kd.width kd.slack (steps R cs) (work k w'') (map (place kd) t'' ++ rest)) (sym calls)
            (subst (λ T. Faithful kd.width kd.slack T (work k w'') (map (place kd) t'' ++ rest)) (sym (steps_push R (map f ss) (f s)))
            (keeps (steps R (map f ss)) rest (ran.faithful R rest faith)));
        told = λ R rest faith.
            subst (λ cs. Answered kd.numbers kd.width kd.slack R cs (answers ++ a ∷ [])) (sym calls)
            (answered_more kd.numbers kd.width kd.slack (map f ss) (f s) answers a R (ran.told R rest faith)
            (tells (steps R (map f ss)) rest (ran.faithful R rest faith)));
      }

-- ---- what the answer of `run` tells
pub run_ok : (wanted places : ℕ) (r : Result (Unit {0}) WorkFault) (u : Unit {0}) → r ≡ cond (leb wanted places) (Ok tt) (Err (Short wanted)) → r ≡ Ok u → wanted ≤ places
run_ok wanted places r u e ok = go (leb wanted places) refl (sym ok ∙ e)
  where
    go : (b : Bool) → leb wanted places ≡ b → ◌≡◌ {A = Result (Unit {0}) WorkFault} (Ok u) (cond b (Ok tt) (Err (Short wanted))) → wanted ≤ places
    go true q e = leb-true _ _ q
    go false q e = let z : ◌≡◌ {A = ℕ} 0 1 = cc in absurd (omega arith)

pub run_err : (wanted places : ℕ) (r : Result (Unit {0}) WorkFault) (f : WorkFault) → r ≡ cond (leb wanted places) (Ok tt) (Err (Short wanted)) → r ≡ Err f
    → (places < wanted) × (f ≡ Short wanted)
run_err wanted places r f e err = go (leb wanted places) refl (sym err ∙ e)
  where
    go : (b : Bool) → leb wanted places ≡ b → ◌≡◌ {A = Result (Unit {0}) WorkFault} (Err f) (cond b (Ok tt) (Err (Short wanted))) → (places < wanted) × (f ≡ Short wanted)
    go true q e = let z : ◌≡◌ {A = ℕ} 0 1 = cc in absurd (omega arith)
    go false q e = (leb-false _ _ q, cc)
