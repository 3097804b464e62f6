-- What each call of a workpiece answers, leaves and keeps: its one outcome, and the law carried on.
use Rattle.std.specs.Prelude.{◌≡◌, ℕ, ◌<◌, true, false, List, [], ◌++◌, map, length, Ok, Result, slice_index_or}
use Rattle.mesh.specs.Mesh.{dual}
use Rattle.mesh.specs.Count.{figure, split}
use Rattle.skin.specs.declared.skin.Skin.{Ghosts}
use Rattle.skin.specs.declared.count.Counts.{Counts}
use Rattle.point.specs.Points.{Point, coordinate}
use Rattle.point.specs.Kinds.{place, mean_point}
use Rattle.point.specs.declared.kind.PointKind.{Ghosts as Kind}
use Rattle.workpiece.specs.declared.piece.Workpiece.{Workpiece}
use Rattle.workpiece.specs.declared.piece.Answer.{Answer}
use Rattle.workpiece.specs.declared.piece.Answer.TheVariants as An
use Rattle.workpiece.specs.declared.fault.WorkFault.{WorkFault}
use Rattle.workpiece.specs.Outcomes.{Next, Split, Averaged, Placed}
use Rattle.workpiece.specs.Reckoning.{Reckoning, Call, step, may_average, may_split, may_reach}
use Rattle.workpiece.specs.Law.{Work, work, opened_skin, NearExact, Spanned, Faithful}
use Rattle.workpiece.specs.Answers.{split_answer, average_answer, reach_answer, count_answer, ok_mapped, done, figure_of}

-- ---- answers beside a reckoning
-- What read answers beside a reckoning R: it is accepted as R tells, and what it reads is near the exact fraction and in the span.
pub record ReadRight {P : Type 0} (numbers : P → Point) (d slack : ℕ) (R : Reckoning) (len dart : ℕ) (r : Result P WorkFault) : Type 0 where
  pub reached : done r ≡ reach_answer tt R.carrier.n dart len
  pub near : (p : P) → r ≡ Ok p → (i : ℕ) → i < d → NearExact slack R dart i (coordinate (numbers p) i)
  pub inside : (p : P) → r ≡ Ok p → (i : ℕ) → i < d → Spanned R.entered i (numbers p)

-- What count answers beside a reckoning R: the rings of its carrier, which give the figure of the mesh opened.
pub record CountRight (R : Reckoning) (len : ℕ) (r : Result Counts WorkFault) : Type 0 where
  pub answer : r ≡ count_answer R.carrier len
  pub figured : (c : Counts) → r ≡ Ok c → figure_of c ≡ figure R.opened

-- The answer to a call is the one that the reckoning tells.
abbrev pub Right : {P : Type 0} → (P → Point) → ℕ → ℕ → Reckoning → Call → Answer P → Type 0
Right numbers d slack R (Call.split len) a = a ≡ An.Split (split_answer R.splits R.carrier.n len)
Right numbers d slack R (Call.average len) a = a ≡ An.Average (average_answer R.averages R.carrier len)
Right numbers d slack R (Call.place len dart p) a = a ≡ An.Place (reach_answer tt R.carrier.n dart len)
Right {P} numbers d slack R (Call.read len dart) a = (r : Result P WorkFault) × (a ≡ An.Read r) × ReadRight numbers d slack R len dart r
Right numbers d slack R (Call.count len) a = (r : Result Counts WorkFault) × (a ≡ An.Count r) × CountRight R len r

-- ---- the law, carried on
-- Whatever the history was, and whatever places lie behind those handed over: a workpiece and its table that were faithful to the
-- reckoning of it are faithful to that of the history with this call.
abbrev pub Keeps : ℕ → ℕ → Call → Work → List Point → Work → List Point → Type 0
Keeps d slack call w t w' t' =
    (R : Reckoning) (rest : List Point) → Faithful d slack R w (t ++ rest) → Faithful d slack (step R call) w' (t' ++ rest)

-- And the answer is the one that the reckoning tells.
abbrev pub Tells : {P : Type 0} → (P → Point) → ℕ → ℕ → Call → Answer P → Work → List Point → Type 0
Tells numbers d slack call a w t = (R : Reckoning) (rest : List Point) → Faithful d slack R w (t ++ rest) → Right numbers d slack R call a

-- ---- the calls: w and t are the workpiece and the places handed over, r the answer, w' and t' what is left
pub record AverageDone {S A X P Q : Type 0} (k : Ghosts S) (kd : Kind A X P Q)
    (w : Workpiece S) (t : List X) (r : Result ℕ WorkFault) (w' : Workpiece S) (t' : List X) : Type 0 where
  pub answer : r ≡ average_answer w.averages (work k w).carrier (length t)
  pub held : opened_skin w' ≡ opened_skin w
  pub accepted : may_average w.averages (work k w).carrier.n (length t) ≡ true
      → Next 0 1 (dual (work k w).carrier) (work k w) (work k w') × Averaged kd.width (mean_point kd) (work k w).carrier (map (place kd) t) (map (place kd) t')
  pub declined : may_average w.averages (work k w).carrier.n (length t) ≡ false → (w' ≡ w) × (t' ≡ t)
  pub faithful : Keeps kd.width kd.slack (Call.average (length t)) (work k w) (map (place kd) t) (work k w') (map (place kd) t')
  pub told : Tells kd.numbers kd.width kd.slack (Call.average (length t)) (An.Average r) (work k w) (map (place kd) t)

pub record SplitDone {S A X P Q : Type 0} (k : Ghosts S) (kd : Kind A X P Q)
    (w : Workpiece S) (t : List X) (r : Result (Unit {0}) WorkFault) (w' : Workpiece S) (t' : List X) : Type 0 where
  pub answer : r ≡ split_answer (work k w).splits (work k w).carrier.n (length t)
  pub held : opened_skin w' ≡ opened_skin w
  pub accepted : may_split (work k w).splits (work k w).carrier.n (length t) ≡ true
      → Next 1 0 (split (work k w).carrier) (work k w) (work k w') × Split (work k w).carrier.n (map (place kd) t) (map (place kd) t')
  pub declined : may_split (work k w).splits (work k w).carrier.n (length t) ≡ false → (w' ≡ w) × (t' ≡ t)
  pub faithful : Keeps kd.width kd.slack (Call.split (length t)) (work k w) (map (place kd) t) (work k w') (map (place kd) t')
  pub told : Tells kd.numbers kd.width kd.slack (Call.split (length t)) (An.Split r) (work k w) (map (place kd) t)

-- at a dart, with a point p
pub record PlaceDone {S A X P Q : Type 0} (k : Ghosts S) (kd : Kind A X P Q) (dart : ℕ) (p : Point)
    (w : Workpiece S) (t : List X) (r : Result (Unit {0}) WorkFault) (w' : Workpiece S) (t' : List X) : Type 0 where
  pub answer : r ≡ reach_answer tt (work k w).carrier.n dart (length t)
  pub same : w' ≡ w
  pub accepted : may_reach dart (work k w).carrier.n (length t) ≡ true → Placed (work k w).carrier dart p (map (place kd) t) (map (place kd) t')
  pub declined : may_reach dart (work k w).carrier.n (length t) ≡ false → t' ≡ t
  pub faithful : Keeps kd.width kd.slack (Call.place (length t) dart p) (work k w) (map (place kd) t) (work k w') (map (place kd) t')
  pub told : Tells kd.numbers kd.width kd.slack (Call.place (length t) dart p) (An.Place r) (work k w) (map (place kd) t)

-- at a dart; nothing changes
pub record ReadDone {S A X P Q : Type 0} (k : Ghosts S) (kd : Kind A X P Q) (dart : ℕ)
    (w : Workpiece S) (t : List X) (r : Result P WorkFault) : Type 0 where
  pub answer : ok_mapped kd.numbers r ≡ reach_answer (slice_index_or (map (place kd) t) dart []) (work k w).carrier.n dart (length t)
  pub told : Tells kd.numbers kd.width kd.slack (Call.read (length t) dart) (An.Read r) (work k w) (map (place kd) t)

-- nothing changes
pub record CountDone {S A X P Q : Type 0} (k : Ghosts S) (kd : Kind A X P Q)
    (w : Workpiece S) (t : List X) (r : Result Counts WorkFault) : Type 0 where
  pub answer : r ≡ count_answer (work k w).carrier (length t)
  pub told : Tells kd.numbers kd.width kd.slack (Call.count (length t)) (An.Count r) (work k w) (map (place kd) t)
