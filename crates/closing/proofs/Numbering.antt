-- Each dart is in one face, and next and prev go round it.
use Rattle.std.proofs.Common.{◌≡◌, ℕ, zero, suc, ◌+◌, ◌-◌, ◌<◌, ◌≤◌, eqb, ltb, List, [], ◌∷◌, length, get_or, sym, refl, ap, ◌∙◌, subst, ⊎_elim, arith}
use Rattle.std.proofs.lemmas.Bool.{cases_lt, cases_eq, lt-ltb, le-ltb, eq-eqb, ne_eqb, cond-true, cond-false}
use Rattle.mesh.specs.Mesh.{times, ring}
use Rattle.std.specs.List.{range_with_len}
use Rattle.std.proofs.lemmas.List.FromFn.{length-range_with_len, get_or-range_with_len, fill_by_all}
use Rattle.mesh.proofs.Rings.{times_zero, times_suc, times_add, ring_at}
use Rattle.mesh.proofs.Periods.{period_short}
use Rattle.closing.specs.Numbering.{total, start, face, after, before, next, prev}

-- h is a dart of face f
pub record In (ks : List ℕ) (f h : ℕ) : Type 0 where
  pub below : f < length ks
  pub low : start ks f ≤ h
  pub high : h < start ks f + get_or ks f 0

face_first : (k : ℕ) (ks : List ℕ) (h : ℕ) → h < k → face (k ∷ ks) h ≡ 0
unfolding face
face_first k ks h l = cond-true (ltb h k) 0 (suc (face ks (h - k))) (lt-ltb h k l)

face_rest : (k : ℕ) (ks : List ℕ) (h : ℕ) → k ≤ h → face (k ∷ ks) h ≡ suc (face ks (h - k))
unfolding face
face_rest k ks h l = cond-false (ltb h k) 0 (suc (face ks (h - k))) (le-ltb h k l)

in_first : (k : ℕ) (ks : List ℕ) (h : ℕ) → h < k → In (k ∷ ks) 0 h
unfolding start
in_first k ks h l = record { below = omega arith; low = omega arith; high = omega arith }

in_rest : (k : ℕ) (ks : List ℕ) (f h : ℕ) → k ≤ h → In ks f (h - k) → In (k ∷ ks) (suc f) h
unfolding start
in_rest k ks f h l i = record { below = omega arith; low = omega arith; high = omega arith }

pub place : (ks : List ℕ) (h : ℕ) → h < total ks → In ks (face ks h) h
unfolding total
place [] h l = absurd (omega arith)
place (k ∷ ks) h l =
    ⊎_elim
    (λ b. subst (λ f. In (k ∷ ks) f h) (sym (face_first k ks h b)) (in_first k ks h b))
    (λ b. subst (λ f. In (k ∷ ks) f h) (sym (face_rest k ks h b)) (in_rest k ks (face ks (h - k)) h b (place ks (h - k) (omega arith))))
    (cases_lt h k)

pub one_face : (ks : List ℕ) (f h : ℕ) → In ks f h → face ks h ≡ f
unfolding start
one_face [] f h i = absurd (omega arith)
one_face (k ∷ ks) zero h i = face_first k ks h (omega arith)
one_face (k ∷ ks) (suc f) h i =
    face_rest k ks h (omega arith)
    ∙ ap suc (one_face ks f (h - k) (record { below = omega arith; low = omega arith; high = omega arith }))

pub ends : (ks : List ℕ) (f : ℕ) → f < length ks → start ks f + get_or ks f 0 ≤ total ks
unfolding start total
ends [] f l = absurd (omega arith)
ends (k ∷ ks) zero l = omega arith
ends (k ∷ ks) (suc f) l = omega (arith, ends ks f (omega arith))

pub in_total : (ks : List ℕ) (f h : ℕ) → In ks f h → h < total ks
in_total ks f h i = omega (arith, ends ks f i.below)

-- the number after, in a row of k from a on
pub after_last : (a k h : ℕ) → h + 1 ≡ a + k → after a k h ≡ a
after_last a k h e = cond-true (eqb (h + 1) (a + k)) a (h + 1) (eq-eqb (h + 1) (a + k) e)

pub after_more : (a k h : ℕ) → (h + 1 ≡ a + k → ⊥) → after a k h ≡ h + 1
after_more a k h e = cond-false (eqb (h + 1) (a + k)) a (h + 1) (ne_eqb (h + 1) (a + k) e)

before_first : (a k h : ℕ) → h ≡ a → before a k h ≡ a + k - 1
before_first a k h e = cond-true (eqb h a) (a + k - 1) (h - 1) (eq-eqb h a e)

before_more : (a k h : ℕ) → (h ≡ a → ⊥) → before a k h ≡ h - 1
before_more a k h e = cond-false (eqb h a) (a + k - 1) (h - 1) (ne_eqb h a e)

row_next : (a k h : ℕ) → a ≤ h → h < a + k → (a ≤ after a k h) × (after a k h < a + k) × (before a k (after a k h) ≡ h)
row_next a k h l u =
    ⊎_elim
    (λ e. let q : after a k h ≡ a = after_last a k h e in let r : before a k (after a k h) ≡ a + k - 1 = before_first a k (after a k h) q in (omega arith, omega arith, omega arith))
    (λ e. let q : after a k h ≡ h + 1 = after_more a k h e in let r : before a k (after a k h) ≡ after a k h - 1 = before_more a k (after a k h) (omega arith) in (omega arith, omega arith, omega arith))
    (cases_eq (h + 1) (a + k))

row_prev : (a k h : ℕ) → a ≤ h → h < a + k → (a ≤ before a k h) × (before a k h < a + k) × (after a k (before a k h) ≡ h)
row_prev a k h l u =
    ⊎_elim
    (λ e. let q : before a k h ≡ a + k - 1 = before_first a k h e in let r : after a k (before a k h) ≡ a = after_last a k (before a k h) (omega arith) in (omega arith, omega arith, omega arith))
    (λ e. let q : before a k h ≡ h - 1 = before_more a k h e in let r : after a k (before a k h) ≡ before a k h + 1 = after_more a k (before a k h) (omega arith) in (omega arith, omega arith, omega arith))
    (cases_eq h a)

row_moves : (a k h : ℕ) → 2 ≤ k → a ≤ h → after a k h ≡ h → ⊥
row_moves a k h b l e =
    ⊎_elim
    (λ q. let r : after a k h ≡ a = after_last a k h q in omega arith)
    (λ q. let r : after a k h ≡ h + 1 = after_more a k h q in omega arith)
    (cases_eq (h + 1) (a + k))

-- what next and prev are, at a dart whose face is known
pub next_in : (ks : List ℕ) (f h : ℕ) → In ks f h → next ks h ≡ after (start ks f) (get_or ks f 0) h
unfolding next
next_in ks f h i = ap (λ (x : ℕ). after (start ks x) (get_or ks x 0) h) (one_face ks f h i)

pub prev_in : (ks : List ℕ) (f h : ℕ) → In ks f h → prev ks h ≡ before (start ks f) (get_or ks f 0) h
unfolding prev
prev_in ks f h i = ap (λ (x : ℕ). before (start ks x) (get_or ks x 0) h) (one_face ks f h i)

-- they stay in the face
pub in_next : (ks : List ℕ) (f h : ℕ) → In ks f h → In ks f (next ks h)
in_next ks f h i =
    let r = row_next (start ks f) (get_or ks f 0) h i.low i.high in
    subst (In ks f) (sym (next_in ks f h i)) (record { below = i.below; low = r.0; high = r.1 })

pub in_prev : (ks : List ℕ) (f h : ℕ) → In ks f h → In ks f (prev ks h)
in_prev ks f h i =
    let r = row_prev (start ks f) (get_or ks f 0) h i.low i.high in
    subst (In ks f) (sym (prev_in ks f h i)) (record { below = i.below; low = r.0; high = r.1 })

-- and undo each other
pub undo_next : (ks : List ℕ) (f h : ℕ) → In ks f h → prev ks (next ks h) ≡ h
undo_next ks f h i =
    prev_in ks f (next ks h) (in_next ks f h i)
    ∙ ap (before (start ks f) (get_or ks f 0)) (next_in ks f h i)
    ∙ (row_next (start ks f) (get_or ks f 0) h i.low i.high).2

pub undo_prev : (ks : List ℕ) (f h : ℕ) → In ks f h → next ks (prev ks h) ≡ h
undo_prev ks f h i =
    next_in ks f (prev ks h) (in_prev ks f h i)
    ∙ ap (after (start ks f) (get_or ks f 0)) (prev_in ks f h i)
    ∙ (row_prev (start ks f) (get_or ks f 0) h i.low i.high).2

-- i steps on in a face of k corners
pub along : (ks : List ℕ) (f h : ℕ) → In ks f h → (i : ℕ) → h + i < start ks f + get_or ks f 0 → times i (next ks) h ≡ h + i
along ks f h o zero l = times_zero (next ks) h ∙ (let e : h ≡ h + 0 = omega arith in e)
along ks f h o (suc i) l =
    let t : times i (next ks) h ≡ h + i = along ks f h o i (omega arith) in
    let p : In ks f (h + i) = record { below = o.below; low = omega arith; high = omega arith } in
    times_suc i (next ks) h ∙ ap (next ks) t ∙ next_in ks f (h + i) p ∙ after_more (start ks f) (get_or ks f 0) (h + i) (omega arith)
    ∙ (let e : h + i + 1 ≡ h + suc i = omega arith in e)

-- k steps go round
pub round : (ks : List ℕ) (f h : ℕ) → In ks f h → times (get_or ks f 0) (next ks) h ≡ h
round ks f h o =
    let a = start ks f in
    let k = get_or ks f 0 in
    let last : In ks f (a + k - 1) = record { below = o.below; low = omega arith; high = omega arith } in
    let first : In ks f a = record { below = o.below; low = omega arith; high = omega arith } in
    let up : times (a + k - 1 - h) (next ks) h ≡ a + k - 1 = along ks f h o (a + k - 1 - h) (omega arith) ∙ (let e : h + (a + k - 1 - h) ≡ a + k - 1 = omega arith in e) in
    let over : times (suc (a + k - 1 - h)) (next ks) h ≡ a =
    times_suc (a + k - 1 - h) (next ks) h ∙ ap (next ks) up ∙ next_in ks f (a + k - 1) last ∙ after_last a k (a + k - 1) (omega arith) in
    let home : times (h - a) (next ks) a ≡ h = along ks f a first (h - a) (omega arith) ∙ (let e : a + (h - a) ≡ h = omega arith in e) in
    ap (λ x. times x (next ks) h) (let e : k ≡ (h - a) + suc (a + k - 1 - h) = omega arith in e)
    ∙ sym (times_add (h - a) (suc (a + k - 1 - h)) (next ks) h) ∙ ap (times (h - a) (next ks)) over ∙ home

-- a face of two corners or more has no dart that follows itself
pub next_moves : (ks : List ℕ) (f h : ℕ) → In ks f h → 2 ≤ get_or ks f 0 → next ks h ≡ h → ⊥
next_moves ks f h i b e = row_moves (start ks f) (get_or ks f 0) h b i.low (sym (next_in ks f h i) ∙ e)

-- from its first dart on, a face's ring has its darts in their order
pub face_ring : (ks : List ℕ) (f : ℕ) → f < length ks → 0 < get_or ks f 0 → get_or ks f 0 ≤ 64 → ring (next ks) (start ks f) ≡ range_with_len (start ks f) (get_or ks f 0)
face_ring ks f l p few =
    let a = start ks f in
    let k = get_or ks f 0 in
    let first : In ks f a = record { below = l; low = omega arith; high = omega arith } in
    let steps : (i : ℕ) → i < k → times i (next ks) a ≡ a + i = λ i u. along ks f a first i (omega arith) in
    let long : length (ring (next ks) a) ≡ k = period_short (next ks) a k
    (record { positive = p; back = round ks f a first; least = λ j q u e. let w : times j (next ks) a ≡ a + j = steps j u in omega arith }) few in
    fill_by_all (λ i. a + i) (ring (next ks) a) k 0 long (λ i u. ring_at (next ks) a i (omega arith) ∙ steps i u)
    ∙ sym (fill_by_all (λ i. a + i) (range_with_len a k) k 0 (length-range_with_len a k) (λ i u. get_or-range_with_len a k i 0 u))

-- ---- the starts of the faces, one after the other

pub start_none : (ks : List ℕ) → start ks 0 ≡ 0
unfolding start
start_none [] = refl
start_none (k ∷ ks) = refl

start_suc : (ks : List ℕ) (f : ℕ) → f < length ks → start ks (suc f) ≡ start ks f + get_or ks f 0
unfolding start
start_suc [] f l = absurd (omega arith)
start_suc (k ∷ ks) zero l = let e : start ks 0 ≡ 0 = start_none ks in omega arith
start_suc (k ∷ ks) (suc f) l = let e : start ks (suc f) ≡ start ks f + get_or ks f 0 = start_suc ks f (omega arith) in omega arith

pub start_more : (ks : List ℕ) (f : ℕ) → f < length ks → start ks (f + 1) ≡ start ks f + get_or ks f 0
start_more ks f l = ap (start ks) (let e : f + 1 ≡ suc f = omega arith in e) ∙ start_suc ks f l

pub start_all : (ks : List ℕ) → start ks (length ks) ≡ total ks
unfolding start total
start_all [] = refl
start_all (k ∷ ks) = ap (λ x. k + x) (start_all ks)
