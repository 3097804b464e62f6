-- What each call of a workpiece keeps, accepted or declined, beside any reckoning and with any places beyond those handed over.
use Rattle.std.proofs.Common.{◌≡◌, ℕ, zero, suc, ◌+◌, ◌*◌, ◌/◌, ◌^◌, ◌<◌, ◌≤◌, Bool, true, false, cond, ◌&&◌, ltb, leb, ◌⊎◌, List, [], ◌∷◌, ◌++◌, map, length, get_or, ℤ, pos, ◌*ℤ◌, Ok, Err, Result, sym, refl, ap, ◌∙◌, subst, ap₂, inl, inr, arith}
use Rattle.std.proofs.lemmas.List.{get_or_append_left, get_or-append_right, length-append, length-map}
use Rattle.std.proofs.lemmas.Bool.{cases_lt, both_ways, cond-true, and_parts, leb-true, ltb-true}
use Rattle.mesh.specs.Mesh.{Mesh, Lawful, dual, ring, turn, among}
use Rattle.mesh.specs.Count.{split, faces}
use Rattle.mesh.proofs.Leads.{faces_same}
use Rattle.skin.proofs.Counted.{counting_same}
use Rattle.mesh.proofs.Rounds.{face_rounds, vertex_rounds, ring_inside}
use Rattle.skin.specs.Counts.{counting}
use Rattle.skin.specs.declared.skin.Skin.{Ghosts}
use Rattle.point.specs.Kinds.{place, mean_point}
use Rattle.point.specs.declared.kind.PointKind.{Ghosts as Kind}
use Rattle.skin.specs.declared.count.Counts.{Counts}
use Rattle.point.specs.Points.{Point, totals, coordinate, distance, Between}
use Rattle.workpiece.specs.declared.piece.Workpiece.{Workpiece}
use Rattle.workpiece.specs.declared.fault.WorkFault.{WorkFault}
use Rattle.workpiece.specs.declared.fault.WorkFault.TheVariants.{Short, NoDart, AveragesSpent}
use Rattle.workpiece.specs.declared.piece.Answer.TheVariants as An
use Rattle.workpiece.specs.Reckoning.{common, Call, may_average, may_split, may_reach, after_average, after_split, after_place}
use Rattle.workpiece.specs.Law.{opened_skin, Faithful, Work, work}
use Rattle.workpiece.specs.Answers.{average_answer, split_answer, reach_answer, ok_mapped, done, count_answer, figure_of}
use Rattle.workpiece.specs.Outcomes.{Split, Averaged, Placed, ring_mean, Next}
use Rattle.workpiece.specs.Calls.{Keeps, Tells, AverageDone, SplitDone, PlaceDone, ReadDone, CountDone}
use Rattle.workpiece.proofs.Lists.{PlaceLaws, same_map}
use Rattle.workpiece.proofs.Average.{average_keeps}
use Rattle.workpiece.proofs.Split.{split_keeps, place_keeps}

real_at : {X : Type 0} (point : X → Point) (ts : List X) (h : ℕ) → h < length ts → (r : X) × (point r ≡ get_or (map point ts) h [])
real_at point [] h l = absurd (omega arith)
real_at point (t ∷ ts) zero l = (t, refl)
real_at point (t ∷ ts) (suc h) l = real_at point ts h (omega arith)

-- ---- places beyond those handed over
rest_left : (t rest : List Point) (x : ℕ) → x < length t → get_or (t ++ rest) x [] ≡ get_or t x []
rest_left t rest x l = get_or_append_left t rest [] x l

-- what two tables of one length agree on, they agree on with more places behind them
rest_same : (t t' rest : List Point) (x : ℕ) → length t' ≡ length t → get_or t' x [] ≡ get_or t x [] → get_or (t' ++ rest) x [] ≡ get_or (t ++ rest) x []
rest_same t t' rest x long e = go (cases_lt x (length t))
  where
    go : (x < length t) ⊎ (length t ≤ x) → get_or (t' ++ rest) x [] ≡ get_or (t ++ rest) x []
    go (inl l) = rest_left t' rest x (rw long l) ∙ e ∙ sym (rest_left t rest x l)
    go (inr l) = get_or-append_right t' rest (length t) x [] long l ∙ sym (get_or-append_right t rest (length t) x [] refl l)

mean_rest : (d : ℕ) (mean : ℕ → List ℤ → Point) {m : Mesh} → Lawful m → (t rest : List Point) (h : ℕ) → h < m.n → m.n ≤ length t
    → ring_mean d mean m t h ≡ ring_mean d mean m (t ++ rest) h
mean_rest d mean {m} law t rest h l fits =
    ap (λ ps. mean (length (ring m.next h)) (totals d ps)) (same_map (λ x. get_or t x []) (λ x. get_or (t ++ rest) x []) (ring m.next h) (λ x e.
    let low : x < m.n = ring_inside (face_rounds law) h x l e in
    sym (rest_left t rest x (omega arith))))

averaged_rest : (d : ℕ) (mean : ℕ → List ℤ → Point) {m : Mesh} → Lawful m → (t t' rest : List Point) → m.n ≤ length t → Averaged d mean m t t' → Averaged d mean m (t ++ rest) (t' ++ rest)
averaged_rest d mean {m} law t t' rest fits out = record {
  long = length-append t' rest ∙ ap (λ n. n + length rest) out.long ∙ sym (length-append t rest);
  here = λ h l. rest_left t' rest h (omega (arith, out.long)) ∙ out.here h l ∙ mean_rest d mean law t rest h l fits;
  past = λ h l. rest_same t t' rest h out.long (out.past h l);
}

-- ---- what the answers tell
average_told : {P : Type 0} (numbers : P → Point) (d slack : ℕ) (w : Work) (t : List Point) (len : ℕ) (r : Result ℕ WorkFault) → Lawful w.carrier
    → r ≡ average_answer w.averages w.carrier len → Tells numbers d slack (Call.average len) (An.Average r) w t
average_told numbers d slack w t len r law answer R rest faith =
    let F : ℕ → ℕ → ℕ → Result ℕ WorkFault = λ a n f. cond (leb n len) (cond (ltb a 255) (Ok f) (Err AveragesSpent)) (Err (Short n)) in
    ap (λ x. An.Average x)
    (answer ∙ ap (λ a. F a w.carrier.n (faces w.carrier)) faith.averaged_so ∙ ap₂ (F R.averages) faith.carried.n (faces_same w.carrier R.carrier law faith.carried))

split_told : {P : Type 0} (numbers : P → Point) (d slack : ℕ) (w : Work) (t : List Point) (len : ℕ) (r : Result (Unit {0}) WorkFault)
    → r ≡ split_answer w.splits w.carrier.n len → Tells numbers d slack (Call.split len) (An.Split r) w t
split_told numbers d slack w t len r answer R rest faith =
    ap (λ x. An.Split x) (answer ∙ ap₂ (λ s n. split_answer s n len) faith.split_so faith.carried.n)

place_told : {P : Type 0} (numbers : P → Point) (d slack : ℕ) (w : Work) (t : List Point) (len dart : ℕ) (p : Point) (r : Result (Unit {0}) WorkFault)
    → r ≡ reach_answer tt w.carrier.n dart len → Tells numbers d slack (Call.place len dart p) (An.Place r) w t
place_told numbers d slack w t len dart p r answer R rest faith =
    ap (λ x. An.Place x) (answer ∙ ap (λ n. reach_answer tt n dart len) faith.carried.n)

-- ---- average
average_accepted : {X : Type 0} {point : X → Point} {d slack : ℕ} {mean : ℕ → List ℤ → Point} → PlaceLaws point d slack mean
    → (w w' : Work) (ts : List X) (t' : List Point) → Lawful w.carrier
    → may_average w.averages w.carrier.n (length ts) ≡ true → Next 0 1 (dual w.carrier) w w' → Averaged d mean w.carrier (map point ts) t'
    → Keeps d slack (Call.average (length ts)) w (map point ts) w' t'
average_accepted {X} {point} {d} {slack} {mean} kind w w' ts t' law yes' next out R rest faith =
    let fits : w.carrier.n ≤ length ts = leb-true w.carrier.n (length ts) (and_parts _ _ yes').0 in
    let fits' : w.carrier.n ≤ length (map point ts) = rw (length-map ts point) fits in
    subst (λ S. Faithful d slack S w' (t' ++ rest))
    (sym (cond-true (may_average R.averages R.carrier.n (length ts)) (after_average R) R (ap₂ (λ a n. may_average a n (length ts)) (sym faith.averaged_so) (sym faith.carried.n) ∙ yes')))
    (average_keeps kind law faith
    (λ h l. let r = real_at point ts h (omega arith) in (r.0, r.1 ∙ sym (rest_left (map point ts) rest h (omega arith))))
    next (averaged_rest d mean law (map point ts) t' rest fits' out))

module _ {S A X P Q : Type 0} (k : Ghosts S) (kd : Kind A X P Q) where
  pub average_yes : PlaceLaws (place kd) kd.width kd.slack (mean_point kd) → (w w' : Workpiece S) (t t' : List X) (r : Result ℕ WorkFault) → Lawful (work k w).carrier
      → may_average w.averages (work k w).carrier.n (length t) ≡ true → r ≡ average_answer w.averages (work k w).carrier (length t)
      → opened_skin w' ≡ opened_skin w → Next 0 1 (dual (work k w).carrier) (work k w) (work k w') → Averaged kd.width (mean_point kd) (work k w).carrier (map (place kd) t) (map (place kd) t')
      → AverageDone k kd w t r w' t'
  average_yes kind w w' t t' r law yes' answer held next out = record {
    answer = answer;
    held = held;
    accepted = λ _. (next, out);
    declined = λ no'. absurd (both_ways _ no' yes');
    faithful = average_accepted kind (work k w) (work k w') t (map (place kd) t') law yes' next out;
    told = average_told kd.numbers kd.width kd.slack (work k w) (map (place kd) t) (length t) r law answer;
  }

-- ---- split
split_rest : (n : ℕ) (t t' rest : List Point) → 4 * n ≤ length t → Split n t t' → Split n (t ++ rest) (t' ++ rest)
split_rest n t t' rest fits out = record {
  long = length-append t' rest ∙ ap (λ n. n + length rest) out.long ∙ sym (length-append t rest);
  here = λ x l. rest_left t' rest x (omega (arith, out.long)) ∙ out.here x l ∙ sym (rest_left t rest (x / 4) (omega arith));
  past = λ x l. rest_same t t' rest x out.long (out.past x l);
}

split_accepted : (d slack : ℕ) (w w' : Work) (t t' : List Point) (len : ℕ) → length t ≡ len → Lawful w.carrier → Lawful w'.carrier
    → may_split w.splits w.carrier.n len ≡ true → Next 1 0 (split w.carrier) w w' → Split w.carrier.n t t'
    → Keeps d slack (Call.split len) w t w' t'
split_accepted d slack w w' t t' len long law law' yes' next out R rest faith =
    let parts = and_parts _ _ (and_parts _ _ yes').1 in
    let few : 4 * w.carrier.n ≤ 1048576 = leb-true _ _ parts.0 in
    let fits : 4 * w.carrier.n ≤ len = leb-true _ _ parts.1 in
    subst (λ S. Faithful d slack S w' (t' ++ rest))
    (sym (cond-true (may_split R.splits R.carrier.n len) (after_split R) R (ap₂ (λ a n. may_split a n len) (sym faith.split_so) (sym faith.carried.n) ∙ yes')))
    (split_keeps law faith law' next few (rw (length-append t rest) (omega arith)) (split_rest w.carrier.n t t' rest (omega arith) out))

-- ---- place
placed_rest : {m : Mesh} → Lawful m → (dart : ℕ) → dart < m.n → (p : Point) (t t' rest : List Point) → m.n ≤ length t → Placed m dart p t t' → Placed m dart p (t ++ rest) (t' ++ rest)
placed_rest {m} law dart l p t t' rest fits out = record {
  long = length-append t' rest ∙ ap (λ n. n + length rest) out.long ∙ sym (length-append t rest);
  here = λ x. here x (among x (ring (turn m) dart)) refl;
}
  where
    here : (x : ℕ) (b : Bool) → among x (ring (turn m) dart) ≡ b → get_or (t' ++ rest) x [] ≡ cond (among x (ring (turn m) dart)) p (get_or (t ++ rest) x [])
    here x true e =
        let low : x < m.n = ring_inside (vertex_rounds law) dart x l e in
        rest_left t' rest x (omega (arith, out.long)) ∙ out.here x ∙ ap (λ b. cond b p (get_or t x [])) e ∙ ap (λ b. cond b p (get_or (t ++ rest) x [])) (sym e)
    here x false e =
        rest_same t t' rest x out.long (out.here x ∙ ap (λ b. cond b p (get_or t x [])) e) ∙ ap (λ b. cond b p (get_or (t ++ rest) x [])) (sym e)

place_accepted : (d slack : ℕ) (w : Work) (t t' : List Point) (len dart : ℕ) (p : Point) → length t ≡ len → Lawful w.carrier
    → may_reach dart w.carrier.n len ≡ true → Placed w.carrier dart p t t' → Keeps d slack (Call.place len dart p) w t w t'
place_accepted d slack w t t' len dart p long law yes' out R rest faith =
    let parts = and_parts _ _ yes' in
    let fits : w.carrier.n ≤ len = leb-true _ _ parts.0 in
    let low : dart < w.carrier.n = ltb-true _ _ parts.1 in
    subst (λ S. Faithful d slack S w (t' ++ rest))
    (sym (cond-true (may_reach dart R.carrier.n len) (after_place R dart p) R (ap (λ n. may_reach dart n len) (sym faith.carried.n) ∙ yes')))
    (place_keeps law faith dart p low (placed_rest law dart low p t t' rest (omega arith) out))

module _ {S A X P Q : Type 0} (k : Ghosts S) (kd : Kind A X P Q) where
  pub split_yes : (w w' : Workpiece S) (t t' : List X) (r : Result (Unit {0}) WorkFault) → Lawful (work k w).carrier → Lawful (work k w').carrier
      → may_split (work k w).splits (work k w).carrier.n (length t) ≡ true → r ≡ split_answer (work k w).splits (work k w).carrier.n (length t)
      → opened_skin w' ≡ opened_skin w → Next 1 0 (split (work k w).carrier) (work k w) (work k w') → Split (work k w).carrier.n (map (place kd) t) (map (place kd) t')
      → SplitDone k kd w t r w' t'
  split_yes w w' t t' r law law' yes' answer held next out = record {
    answer = answer;
    held = held;
    accepted = λ _. (next, out);
    declined = λ no'. absurd (both_ways _ no' yes');
    faithful = split_accepted kd.width kd.slack (work k w) (work k w') (map (place kd) t) (map (place kd) t') (length t) (length-map t (place kd)) law law' yes' next out;
    told = split_told kd.numbers kd.width kd.slack (work k w) (map (place kd) t) (length t) r answer;
  }

  pub place_yes : (dart : ℕ) (p : Point) (w : Workpiece S) (t t' : List X) (r : Result (Unit {0}) WorkFault) → Lawful (work k w).carrier
      → may_reach dart (work k w).carrier.n (length t) ≡ true → r ≡ reach_answer tt (work k w).carrier.n dart (length t)
      → Placed (work k w).carrier dart p (map (place kd) t) (map (place kd) t') → PlaceDone k kd dart p w t r w t'
  place_yes dart p w t t' r law yes' answer out = record {
    answer = answer;
    same = refl;
    accepted = λ _. out;
    declined = λ no'. absurd (both_ways _ no' yes');
    faithful = place_accepted kd.width kd.slack (work k w) (map (place kd) t) (map (place kd) t') (length t) dart p (length-map t (place kd)) law yes' out;
    told = place_told kd.numbers kd.width kd.slack (work k w) (map (place kd) t) (length t) dart p r answer;
  }

-- ---- what is reached at a dart
pub reached : {X : Type 0} (x y : X) (n dart len : ℕ) → Ok y ≡ reach_answer x n dart len → (y ≡ x) × (may_reach dart n len ≡ true)
reached {X} x y n dart len e = go (leb n len) (ltb dart n) e
  where
    go : (a b : Bool) → Ok y ≡ cond a (cond b (Ok x) (Err (NoDart dart))) (Err (Short n)) → (y ≡ x) × ((a && b) ≡ true)
    go true true e = (cc, refl)
    go true false e = let z : ◌≡◌ {A = ℕ} 0 1 = cc in absurd (omega arith)
    go false b e = let z : ◌≡◌ {A = ℕ} 0 1 = cc in absurd (omega arith)

-- with what is held put in the place of nothing
pub reach_with : {X : Type 0} (x : X) (n dart len : ℕ) → ok_mapped (λ _. x) (reach_answer {X = Unit {0}} tt n dart len) ≡ reach_answer x n dart len
reach_with x n dart len = go (leb n len) (ltb dart n)
  where
    go : (a b : Bool) → ok_mapped {X = Unit {0}} (λ _. x) (cond a (cond b (Ok tt) (Err (NoDart dart))) (Err (Short n))) ≡ cond a (cond b (Ok x) (Err (NoDart dart))) (Err (Short n))
    go true true = refl
    go true false = refl
    go false b = refl

-- a dart that is reached is one, and has a place
pub within_reach : (n dart len : ℕ) → may_reach dart n len ≡ true → (n ≤ len) × (dart < n)
within_reach n dart len e = let p = and_parts (leb n len) (ltb dart n) e in (leb-true n len p.0, ltb-true dart n p.1)

read_point : {X : Type 0} (x p : X) (n dart len : ℕ) → Ok p ≡ reach_answer x n dart len → (n ≤ len) × (dart < n) × (p ≡ x)
read_point x p n dart len e =
    let r = reached x p n dart len e in
    let w = within_reach n dart len r.1 in (w.0, w.1, r.0)

-- ---- read
done_mapped : {P : Type 0} (numbers : P → Point) (r : Result P WorkFault) → done (ok_mapped numbers r) ≡ done r
done_mapped numbers (Ok p) = refl
done_mapped numbers (Err e) = refl

done_reach : {X : Type 0} (x : X) (n dart len : ℕ) → done (reach_answer x n dart len) ≡ reach_answer tt n dart len
done_reach x n dart len = go (leb n len) (ltb dart n)
  where
    go : (a b : Bool) → done (cond a (cond b (Ok x) (Err (NoDart dart))) (Err (Short n))) ≡ cond a (cond b (Ok tt) (Err (NoDart dart))) (Err (Short n))
    go true true = refl
    go true false = refl
    go false b = refl

module _ {S A X P Q : Type 0} (k : Ghosts S) (kd : Kind A X P Q) where
  pub read_done : (dart : ℕ) (w : Workpiece S) (t : List X) (r : Result P WorkFault)
      → ok_mapped kd.numbers r ≡ reach_answer (get_or (map (place kd) t) dart []) (work k w).carrier.n dart (length t) → ReadDone k kd dart w t r
  read_done dart w t r answer = record {
    answer = answer;
    told = λ R rest faith. (
      r,
      refl,
      record {
        reached = sym (done_mapped kd.numbers r) ∙ ap done answer ∙ done_reach (get_or (map (place kd) t) dart []) (work k w).carrier.n dart (length t)
            ∙ ap (λ n. reach_answer tt n dart (length t)) faith.carried.n;
        near = λ p e i li.
            let q = read_point (get_or (map (place kd) t) dart []) (kd.numbers p) (work k w).carrier.n dart (length t) (sym (ap (ok_mapped kd.numbers) e) ∙ answer) in
            subst (λ z. 2 * distance (coordinate z i *ℤ pos (common ^ R.averages)) (R.exact dart i) ≤ kd.slack * R.averages * common ^ R.averages)
            (rest_left (map (place kd) t) rest dart (rw (length-map t (place kd)) (omega (arith, q.0, q.1))) ∙ sym q.2)
            (faith.near dart i (subst (λ n. dart < n) faith.carried.n q.1) li);
        inside = λ p e i li lo hi b.
            let q = read_point (get_or (map (place kd) t) dart []) (kd.numbers p) (work k w).carrier.n dart (length t) (sym (ap (ok_mapped kd.numbers) e) ∙ answer) in
            subst (Between lo hi i)
            (rest_left (map (place kd) t) rest dart (rw (length-map t (place kd)) (omega (arith, q.0, q.1))) ∙ sym q.2)
            (faith.inside dart i (subst (λ n. dart < n) faith.carried.n q.1) li lo hi b);
      },
    );
  }

-- ---- count
count_ok : (m : Mesh) (len : ℕ) (c : Counts) → Ok c ≡ count_answer m len → c ≡ counting m
count_ok m len c e = go (leb m.n len) e
  where
    go : (b : Bool) → Ok c ≡ cond b (Ok (counting m)) (Err (Short m.n)) → c ≡ counting m
    go true e = cc
    go false e = let z : ◌≡◌ {A = ℕ} 0 1 = cc in absurd (omega arith)

module _ {S A X P Q : Type 0} (k : Ghosts S) (kd : Kind A X P Q) where
  pub count_done : (w : Workpiece S) (t : List X) (r : Result Counts WorkFault) → Lawful (work k w).carrier
      → r ≡ count_answer (work k w).carrier (length t) → CountDone k kd w t r
  count_done w t r law answer = record {
    answer = answer;
    told = λ R rest faith.
        let F : ℕ → Counts → Result Counts WorkFault = λ n c. cond (leb n (length t)) (Ok c) (Err (Short n)) in
        let e : r ≡ count_answer R.carrier (length t) = answer ∙ ap₂ F faith.carried.n (counting_same (work k w).carrier R.carrier law faith.carried) in
        (r, refl, record { answer = e; figured = λ c q. ap figure_of (count_ok R.carrier (length t) c (sym q ∙ e)) ∙ faith.figured });
  }
