-- An average under way: the rings with a dart below a are done.
use Rattle.std.proofs.Common.{◌≡◌, ℕ, ◌+◌, ◌<◌, ◌≤◌, Bool, true, false, cond, List, [], map, length, get_or, ℤ, sym, refl, ap, ◌∙◌, arith}
use mathlib.Core.Path.{fun_ext}
use Rattle.std.proofs.lemmas.Simd.{map-map}
use Rattle.std.proofs.lemmas.Bool.{cond-true, cond-false}
use Rattle.std.specs.List.{range_with_len}
use Rattle.mesh.specs.Mesh.{Mesh, Lawful, ring, among, floor}
use Rattle.mesh.proofs.Rounds.{period, period_next, face_rounds, ring_inside, ring_keeps, floor_among, floor_here, floor_elsewhere, floor_not_first, floor_end, floor_zero}
use Rattle.point.specs.Points.{Point, totals, total, coordinate}
use Rattle.workpiece.specs.Outcomes.{ring_mean, Stored, Averaged}
use Rattle.workpiece.proofs.Lists.{total_next, same_map}

pub record Part (d : ℕ) (mean : ℕ → List ℤ → Point) (m : Mesh) (before : List Point) (a : ℕ) (cur : List Point) : Type 0 where
  pub long : length cur ≡ length before
  pub here : (x : ℕ) → x < m.n → get_or cur x [] ≡ cond (floor a (ring m.next x)) (get_or before x []) (ring_mean d mean m before x)
  pub past : (x : ℕ) → m.n ≤ x → get_or cur x [] ≡ get_or before x []

-- a face ring has one mean, whichever of its darts it is taken from
pub mean_next : (d : ℕ) (mean : ℕ → List ℤ → Point) {m : Mesh} → Lawful m → (table : List Point) (h : ℕ) → h < m.n → ring_mean d mean m table (m.next h) ≡ ring_mean d mean m table h
mean_next d mean {m} law table h l =
    ap (λ k. mean k (totals d (map (λ x. get_or table x []) (ring m.next (m.next h))))) (period_next (face_rounds law) h l)
    ∙ ap (λ (f : ℕ → ℤ). mean (period m.next h) (map f (range_with_len 0 d))) (fun_ext (λ i.
    ap total (map-map (λ p. coordinate p i) (λ x. get_or table x []) (ring m.next (m.next h)))
    ∙ total_next (face_rounds law) (λ x. coordinate (get_or table x []) i) h l
    ∙ ap total (sym (map-map (λ p. coordinate p i) (λ x. get_or table x []) (ring m.next h)))))

module _ {d : ℕ} {mean : ℕ → List ℤ → Point} {m : Mesh} (law : Lawful m) {before : List Point} where
  pub part_none : Part d mean m before 0 before
  part_none = record {
    long = refl;
    here = λ x l. sym (cond-true (floor 0 (ring m.next x)) _ _ (floor_zero (ring m.next x)));
    past = λ x l. refl;
  }

  pub part_all : {after : List Point} → Part d mean m before m.n after → Averaged d mean m before after
  part_all p = record {
    long = p.long;
    here = λ x l. p.here x l ∙ cond-false (floor m.n (ring m.next x)) _ _ (floor_end (face_rounds law) x l);
    past = p.past;
  }

  pub part_skip : {cur : List Point} (a : ℕ) → a < m.n → floor a (ring m.next a) ≡ false → Part d mean m before a cur → Part d mean m before (a + 1) cur
  part_skip a l no' p = record {
    long = p.long;
    here = λ x lx. p.here x lx ∙ ap (λ b. cond b (get_or before x []) (ring_mean d mean m before x)) (sym (floor_not_first (face_rounds law) a x lx no'));
    past = p.past;
  }

  pub part_more : {cur after : List Point} (a : ℕ) → a < m.n → floor a (ring m.next a) ≡ true → Part d mean m before a cur
      → Stored m.next a (ring_mean d mean m cur a) cur after → Part d mean m before (a + 1) after
  part_more {cur} {after} a l yes' p out = record {
    long = out.long ∙ p.long;
    here = λ x lx. out.here x ∙ here x lx (among x (ring m.next a)) refl;
    past = λ x lx. out.here x ∙ past x lx (among x (ring m.next a)) refl ∙ p.past x lx;
  }
    where
      inside : (x : ℕ) → among x (ring m.next a) ≡ true → x < m.n
      inside x e = ring_inside (face_rounds law) a x l e

      untouched : (x : ℕ) → among x (ring m.next a) ≡ true → get_or cur x [] ≡ get_or before x []
      untouched x e = p.here x (inside x e) ∙ cond-true (floor a (ring m.next x)) _ _ (floor_among (face_rounds law) a a x l e ∙ yes')

      mean_so : ring_mean d mean m cur a ≡ ring_mean d mean m before a
      mean_so = ap (λ ps. mean (period m.next a) (totals d ps)) (same_map (λ x. get_or cur x []) (λ x. get_or before x []) (ring m.next a) untouched)

      here : (x : ℕ) → x < m.n → (b : Bool) → among x (ring m.next a) ≡ b
          → cond b (ring_mean d mean m cur a) (get_or cur x []) ≡ cond (floor (a + 1) (ring m.next x)) (get_or before x []) (ring_mean d mean m before x)
      here x lx true e =
          mean_so ∙ sym (ring_keeps (face_rounds law) (ring_mean d mean m before) (mean_next d mean law before) a x l e)
          ∙ sym (cond-false (floor (a + 1) (ring m.next x)) _ _ (floor_here (face_rounds law) a x l e))
      here x lx false e = p.here x lx ∙ ap (λ b. cond b (get_or before x []) (ring_mean d mean m before x)) (sym (floor_elsewhere (face_rounds law) a x lx e))

      past : (x : ℕ) → m.n ≤ x → (b : Bool) → among x (ring m.next a) ≡ b → cond b (ring_mean d mean m cur a) (get_or cur x []) ≡ get_or cur x []
      past x lx true e = let i : x < m.n = inside x e in absurd (omega arith)
      past x lx false e = refl
