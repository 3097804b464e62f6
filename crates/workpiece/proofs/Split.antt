-- An accepted split, place and opening keep a workpiece faithful.
use Rattle.std.proofs.Common.{◌≡◌, ℕ, zero, suc, ◌+◌, ◌*◌, ◌/◌, ◌^◌, ◌<◌, ◌≤◌, Bool, true, false, cond, leb, List, [], ◌∷◌, ◌++◌, length, get_or, take, ℤ, pos, ◌*ℤ◌, sym, refl, ap, ◌∙◌, subst, add-zero, arith}
use Rattle.std.proofs.lemmas.List.{get_or-take, length-take-le, length-append, get_or_append_left}
use Rattle.std.proofs.lemmas.Bool.{cond-true, le-leb}
use Rattle.mesh.specs.Mesh.{Mesh, turn, ring, among, dual, quad, Same, Lawful}
use Rattle.mesh.specs.Count.{split}
use Rattle.mesh.proofs.Rings.{ring_agree, times_zero, times_suc}
use Rattle.mesh.proofs.DualLaws.{turn_below}
use Rattle.mesh.proofs.QuadLaws.{quad_lawful, four, next0, next1, next2, next3}
use Rattle.mesh.proofs.Same.{same_refl, same_trans, same_turn, same_dual, same_quad}
use Rattle.mesh.proofs.Figures.{figure_same, figure_split}
use Rattle.mesh.proofs.Rounds.{vertex_rounds, among_next, keeps}
use Rattle.point.specs.Points.{Point, coordinate, distance, Each, Between}
use Rattle.workpiece.specs.Reckoning.{Reckoning, common, opening, after_split, after_place}
use Rattle.workpiece.specs.Law.{Work, Faithful}
use Rattle.workpiece.specs.Outcomes.{Next, Split, Placed}
use Rattle.workpiece.proofs.Whole.{distance_same}

module _ {d slack : ℕ} {R : Reckoning} {w : Work} {before : List Point} (law : Lawful w.carrier) (faith : Faithful d slack R w before) where
  low : (h : ℕ) → h < R.carrier.n → h < w.carrier.n
  low h l = subst (λ n. h < n) (sym faith.carried.n) l

  pub split_keeps : {w' : Work} {after : List Point} → Lawful w'.carrier → Next 1 0 (split w.carrier) w w' → 4 * w.carrier.n ≤ 1048576 → 4 * w.carrier.n ≤ length before
      → Split w.carrier.n before after → Faithful d slack (after_split R) w' after
  split_keeps {w'} {after} law' next few fits out = record {
    carried = whole;
    split_so = next.split_so ∙ ap (λ a. a + 1) faith.split_so;
    averaged_so = next.averaged_so ∙ add-zero w.averages ∙ faith.averaged_so;
    covers = rw (all, out.long, ← faith.carried.n) fits;
    near = λ x i l li. subst (λ z. 2 * distance (coordinate z i *ℤ pos (common ^ R.averages)) (R.exact (x / 4) i) ≤ slack * R.averages * common ^ R.averages)
        (sym (here x l)) (faith.near (x / 4) i (quarter x l) li);
    rings = λ x k l. keeps (N) (turn (dual (quad R.carrier))) (λ y. get_or after y []) below one k x l;
    inside = λ x i l li lo hi e. subst (Between lo hi i) (sym (here x l)) (faith.inside (x / 4) i (quarter x l) li lo hi e);
    figured = sym (figure_same law' whole) ∙ figure_same law' next.carried ∙ figure_split w.carrier law (omega arith) ∙ figure_same law faith.carried ∙ faith.figured;
  }
    where
      N : ℕ
      N = (quad R.carrier).n

      small : R.carrier.n ≤ 262144
      small = omega (arith, few, faith.carried.n)

      all : N ≡ 4 * R.carrier.n
      all = cond-true (leb R.carrier.n 262144) (4 * R.carrier.n) 0 (le-leb R.carrier.n 262144 small)

      whole : Same w'.carrier (dual (quad R.carrier))
      whole = same_trans next.carried (same_dual (quad w.carrier) (quad R.carrier) (quad_lawful w.carrier law) (same_quad w.carrier R.carrier law faith.carried))

      quarter : (x : ℕ) → x < N → x / 4 < R.carrier.n
      quarter x l = let k : x < 4 * R.carrier.n = subst (λ y. x < y) all l in omega arith

      here : (x : ℕ) → x < N → get_or after x [] ≡ get_or before (x / 4) []
      here x l = let k : x < 4 * R.carrier.n = subst (λ y. x < y) all l in out.here x (omega (arith, faith.carried.n))

      back : (x : ℕ) → x < N → (quad R.carrier).twin ((quad R.carrier).twin x) ≡ x
      back x l =
          let k : x < w'.carrier.n = subst (λ y. x < y) (sym whole.n) l in
          ap (quad R.carrier).twin (sym (whole.twin x k)) ∙ sym (whole.twin (w'.carrier.twin x) (law'.twin_below x k)) ∙ law'.twin_twin x k

      turned : (x : ℕ) → x < N → turn (dual (quad R.carrier)) x ≡ (quad R.carrier).next x
      turned x l = ap (quad R.carrier).next (back x l)

      -- one step round a face of the Quad stays in its four darts
      around : (x : ℕ) → x < N → ((quad R.carrier).next x < 4 * R.carrier.n) × ((quad R.carrier).next x / 4 ≡ x / 4)
      around x l =
          four R.carrier.n x (λ y. ((quad R.carrier).next y < 4 * R.carrier.n) × ((quad R.carrier).next y / 4 ≡ y / 4)) (subst (λ y. x < y) all l)
          (λ h c. omega (arith, next0 R.carrier h)) (λ h c. omega (arith, next1 R.carrier h)) (λ h c. omega (arith, next2 R.carrier h)) (λ h c. omega (arith, next3 R.carrier h))

      below : (x : ℕ) → x < N → turn (dual (quad R.carrier)) x < N
      below x l = subst (λ y. y < N) (sym (turned x l)) (subst (λ y. (quad R.carrier).next x < y) (sym all) (around x l).0)

      one : (x : ℕ) → x < N → get_or after (turn (dual (quad R.carrier)) x) [] ≡ get_or after x []
      one x l =
          here (turn (dual (quad R.carrier)) x) (below x l) ∙ ap (λ y. get_or before (y / 4) []) (turned x l) ∙ ap (λ y. get_or before y []) (around x l).1 ∙ sym (here x l)

  pub place_keeps : {after : List Point} (dart : ℕ) (p : Point) → dart < w.carrier.n → Placed w.carrier dart p before after
      → Faithful d slack (after_place R dart p) w after
  place_keeps {after} dart p within out = record {
    carried = faith.carried;
    split_so = faith.split_so;
    averaged_so = faith.averaged_so;
    covers = rw out.long faith.covers;
    near = λ h i l li. subst (λ z. 2 * distance (coordinate z i *ℤ pos (common ^ R.averages)) ((after_place R dart p).exact h i) ≤ slack * R.averages * common ^ R.averages)
        (sym (here h)) (near h i l li (among h (ring (turn R.carrier) dart)));
    rings = λ h k l. keeps R.carrier.n (turn R.carrier) (λ y. get_or after y []) below one k h l;
    inside = λ h i l li lo hi e. subst (Between lo hi i) (sym (here h)) (inside h i l li lo hi e (among h (ring (turn R.carrier) dart)));
    figured = faith.figured;
  }
    where
      high : (h : ℕ) → h < w.carrier.n → h < R.carrier.n
      high h l = subst (λ n. h < n) faith.carried.n l

      rg : ring (turn w.carrier) dart ≡ ring (turn R.carrier) dart
      rg = sym (ring_agree w.carrier.n (turn w.carrier) (turn R.carrier) (turn_below w.carrier law) (λ x b. sym (same_turn w.carrier R.carrier law faith.carried x b)) dart within)

      here : (h : ℕ) → get_or after h [] ≡ cond (among h (ring (turn R.carrier) dart)) p (get_or before h [])
      here h = out.here h ∙ ap (λ r. cond (among h r) p (get_or before h [])) rg

      near : (h i : ℕ) → h < R.carrier.n → i < d → (b : Bool)
          → 2 * distance (coordinate (cond b p (get_or before h [])) i *ℤ pos (common ^ R.averages)) (cond b (coordinate p i *ℤ pos (common ^ R.averages)) (R.exact h i)) ≤ slack * R.averages * common ^ R.averages
      near h i l li true = omega (arith, distance_same (coordinate p i *ℤ pos (common ^ R.averages)))
      near h i l li false = faith.near h i l li

      inside : (h i : ℕ) → h < R.carrier.n → i < d → (lo hi : ℤ) → Each (Between lo hi i) (p ∷ R.entered) → (b : Bool) → Between lo hi i (cond b p (get_or before h []))
      inside h i l li lo hi e true = e.0
      inside h i l li lo hi e false = faith.inside h i l li lo hi e.1

      st : (h : ℕ) → h < R.carrier.n → turn R.carrier h ≡ turn w.carrier h
      st h l = sym (same_turn w.carrier R.carrier law faith.carried h (low h l))

      step_one : (h : ℕ) → h < R.carrier.n → get_or before (turn R.carrier h) [] ≡ get_or before h []
      step_one h l = ap (λ y. get_or before y []) (ap (turn R.carrier) (sym (times_zero (turn R.carrier) h)) ∙ sym (times_suc 0 (turn R.carrier) h)) ∙ faith.rings h 1 l

      below : (h : ℕ) → h < R.carrier.n → turn R.carrier h < R.carrier.n
      below h l = subst (λ x. x < R.carrier.n) (sym (st h l)) (high (turn w.carrier h) (turn_below w.carrier law h (low h l)))

      one : (h : ℕ) → h < R.carrier.n → get_or after (turn R.carrier h) [] ≡ get_or after h []
      one h l =
          ap (λ y. get_or after y []) (st h l) ∙ out.here (turn w.carrier h)
          ∙ ap (λ b. cond b p (get_or before (turn w.carrier h) [])) (among_next (vertex_rounds law) h dart (low h l) within)
          ∙ ap (λ q. cond (among h (ring (turn w.carrier) dart)) p q) (ap (λ y. get_or before y []) (sym (st h l)) ∙ step_one h l)
          ∙ sym (out.here h)

-- a fresh workpiece is faithful
each_at : (P : Point → Type 0) (ps : List Point) → Each P ps → (h : ℕ) → h < length ps → P (get_or ps h [])
each_at P [] e h l = absurd (omega arith)
each_at P (p ∷ ps) e zero l = e.0
each_at P (p ∷ ps) e (suc h) l = each_at P ps e.1 h (omega arith)

pub open_faithful : (d slack : ℕ) {m : Mesh} → Lawful m → (t rest : List Point) → m.n ≤ length t
    → ((h : ℕ) → h < m.n → get_or t h [] ≡ get_or t (turn m h) [])
    → Faithful d slack (opening m t) (record { carrier = m; splits = 0; averages = 0 }) (t ++ rest)
open_faithful d slack {m} law t rest fits agree = record {
  carried = same_refl m;
  split_so = refl;
  averaged_so = refl;
  covers = rw (length-append t rest) (omega arith);
  near = λ h i l li. subst (λ z. 2 * distance (coordinate z i *ℤ pos (common ^ 0)) (coordinate (get_or t h []) i *ℤ pos (common ^ 0)) ≤ slack * 0 * common ^ 0) (sym (left h l))
      (omega (arith, distance_same (coordinate (get_or t h []) i *ℤ pos (common ^ 0))));
  rings = λ h k l. keeps m.n (turn m) (λ y. get_or (t ++ rest) y []) (turn_below m law)
      (λ h l. left (turn m h) (turn_below m law h l) ∙ sym (agree h l) ∙ sym (left h l)) k h l;
  inside = λ h i l li lo hi e. subst (Between lo hi i) (get_or-take m.n t h [] l ∙ sym (left h l)) (each_at (Between lo hi i) (take m.n t) e h (rw (length-take-le m.n t fits) l));
  figured = refl;
}
  where
    left : (h : ℕ) → h < m.n → get_or (t ++ rest) h [] ≡ get_or t h []
    left h l = get_or_append_left t rest [] h (omega arith)
