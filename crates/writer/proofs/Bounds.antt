-- How long the text of a sheet is at most.
use Rattle.std.proofs.Common.{◌≡◌, ℕ, zero, suc, ◌+◌, ◌*◌, ◌<◌, ◌≤◌, Bool, List, [], ◌∷◌, ◌++◌, length, get_or, ℤ, pos, negsuc, decimal, sym, refl, ap, ◌∙◌, subst, ⊎_elim, add-one, arith, length-append}
use Rattle.std.specs.List.{flat_map, AllByRecursion}
use Rattle.std.specs.Fmt.{signed_decimal}
use Rattle.std.proofs.lemmas.Fmt.{length-decimal-le, length_signed_le}
use Rattle.std.proofs.lemmas.Bool.{cases_Bool, cond-true, cond-false}
use Rattle.mesh.specs.Mesh.{Mesh, Lawful, turn, ring}
use Rattle.mesh.specs.Count.{sum, leads, rings, vertices, faces}
use Rattle.mesh.proofs.Leads.{count_le, count_yes, count_no}
use Rattle.point.specs.Range.{InRange}
use Rattle.sheet.specs.Sheet.{point_text, face_text, sheet_text, PointIn, FaceIn}
use Rattle.point.specs.declared.solid.SolidRecord.{SolidRecord}
use Rattle.writer.specs.Points.{origin, point_at}
use Rattle.writer.specs.Listing.{corners_from, sheet_of, bytes_needed}
use Rattle.writer.proofs.ByLine.{each, each_none, each_yes, each_no, corner_text, parts, parts_are, corners_long}
use Rattle.writer.proofs.Numbering.{way_long}
use Rattle.writer.proofs.Shares.{led, rings_all}
use Rattle.writer.proofs.Limits.{point_in, face_in}

seven : (n : ℕ) → n ≤ 1048576 → length (decimal n) ≤ 7
seven n b = length-decimal-le 7 n (omega arith) (let q : n < 10000000 = omega arith in q) (omega arith)

two : (n : ℕ) → n ≤ 64 → length (decimal n) ≤ 2
two n b = length-decimal-le 2 n (omega arith) (let q : n < 100 = omega arith in q) (omega arith)

units_long : (z : ℤ) → InRange z → length (signed_decimal z) ≤ 9
units_long (pos n) b = length_signed_le 8 (pos n) (let q : n + 1 < 100000000 = omega arith in q) (omega arith)
units_long (negsuc n) b = length_signed_le 8 (negsuc n) (let q : n + 1 < 100000000 = omega arith in q) (omega arith)

point_long : (p : SolidRecord) → PointIn p → length (point_text p) ≤ 30
point_long p i =
    let a = units_long p.x i.0 in
    let b = units_long p.y i.1 in
    let c = units_long p.z i.2 in
    simp length-append (omega arith)

numbers_long : (vs : List ℕ) → AllByRecursion (λ v. v ≤ 1048575) vs → length (flat_map corner_text vs) ≤ 8 * length vs
numbers_long [] b = omega arith
numbers_long (v ∷ vs) b =
    let a : length (flat_map corner_text vs) ≤ 8 * length vs = numbers_long vs b.1 in
    let d : length (decimal v) ≤ 7 = seven v (omega (arith, b.0)) in
    omega (arith, length-append (decimal v) (flat_map corner_text vs))

face_long : (vs : List ℕ) → FaceIn vs → length (face_text vs) ≤ 3 + 8 * length vs
face_long vs i =
    let a = two (length vs) i.1 in
    let c = numbers_long vs i.2 in
    omega (arith, length-append (decimal (length vs)) (flat_map corner_text vs ++ 10 ∷ []), length-append (flat_map corner_text vs) (10 ∷ []))

module _ {B : Type 0} (T : B → List ℕ) (g : ℕ → B) (f : ℕ → ℕ) where
  each_thirty : (n : ℕ) → ((h : ℕ) → h < n → length (T (g h)) ≤ 30) → length (each T g f n) ≤ 30 * rings f n
  each_thirty zero b = omega (arith, ap length (each_none T g f))
  each_thirty (suc n) b =
      let i : length (each T g f n) ≤ 30 * rings f n = each_thirty n (λ h l. b h (omega arith)) in
      subst (λ x. length (each T g f x) ≤ 30 * rings f x) (add-one n)
      (⊎_elim
      (λ e. omega (arith, b n (omega arith), ap length (each_yes T g f n e), length-append (each T g f n) (T (g n)), count_yes (leads f) n (rings f n) refl e))
      (λ e. omega (arith, ap length (each_no T g f n e), count_no (leads f) n (rings f n) refl e))
      (cases_Bool (leads f n)))

  each_ring : (n : ℕ) → ((h : ℕ) → h < n → length (T (g h)) ≤ 3 + 8 * length (ring f h)) → length (each T g f n) ≤ 3 * rings f n + 8 * sum (led f) n
  unfolding sum
  each_ring zero b = omega (arith, ap length (each_none T g f))
  each_ring (suc n) b =
      let i : length (each T g f n) ≤ 3 * rings f n + 8 * sum (led f) n = each_ring n (λ h l. b h (omega arith)) in
      let s : suc n ≡ n + 1 = sym (add-one n) in
      let a : length (each T g f (suc n)) ≡ length (each T g f (n + 1)) = ap (λ x. length (each T g f x)) s in
      let c : rings f (suc n) ≡ rings f (n + 1) = ap (rings f) s in
      ⊎_elim
      (λ e. omega (
        arith,
        b n (omega arith),
        ap length (each_yes T g f n e),
        length-append (each T g f n) (T (g n)),
        count_yes (leads f) n (rings f n) refl e,
        cond-true (leads f n) (length (ring f n)) 0 e,
      ))
      (λ e. omega (arith, ap length (each_no T g f n e), count_no (leads f) n (rings f n) refl e, cond-false (leads f n) (length (ring f n)) 0 e))
      (cases_Bool (leads f n))

  -- all lines are as long as the rings, where each is
  pub each_all : (n : ℕ) → ((h : ℕ) → h < n → length (T (g h)) ≡ length (ring f h)) → length (each T g f n) ≡ sum (led f) n
  unfolding sum
  each_all zero b = ap length (each_none T g f)
  each_all (suc n) b =
      let i : length (each T g f n) ≡ sum (led f) n = each_all n (λ h l. b h (omega arith)) in
      let a : length (each T g f (suc n)) ≡ length (each T g f (n + 1)) = ap (λ x. length (each T g f x)) (sym (add-one n)) in
      ⊎_elim
      (λ e. omega (arith, b n (omega arith), ap length (each_yes T g f n e), length-append (each T g f n) (T (g n)), cond-true (leads f n) (length (ring f n)) 0 e))
      (λ e. omega (arith, ap length (each_no T g f n e), cond-false (leads f n) (length (ring f n)) 0 e))
      (cases_Bool (leads f n))

parts_long : (v f : ℕ) (ps fs : List ℕ) → length (parts v ps f fs) ≡ 19 + length (decimal v) + length ps + length (decimal f) + length fs
parts_long v f ps fs = simp length-append (omega arith)

module _ (m : Mesh) (l : Lawful m) where
  pub faces_all : sum (led m.next) m.n ≡ m.n
  faces_all = rings_all m.n m.next m.prev l.next_below l.prev_below l.prev_next l.next_prev l.faces_short

  -- the corners of a face are as many as its darts
  pub face_corners : (backward : Bool) (h : ℕ) → h < m.n → length (corners_from m backward h) ≡ length (ring m.next h)
  face_corners backward h b = corners_long m backward h ∙ way_long m l backward h b

  pub text_bound : (table : List SolidRecord) (backward : Bool) → length (sheet_text (sheet_of m table backward)) ≤ bytes_needed m
  text_bound table backward =
      let ps = each point_text (point_at table) (turn m) m.n in
      let fs = each face_text (corners_from m backward) m.next m.n in
      let e : length (parts (vertices m) ps (faces m) fs) ≡ length (sheet_text (sheet_of m table backward)) = ap length (parts_are m table backward (vertices m) (faces m) refl refl) in
      let a : length ps ≤ 30 * vertices m = each_thirty point_text (point_at table) (turn m) m.n (λ h b. point_long (point_at table h) (point_in (get_or table h origin))) in
      let c : length fs ≤ 3 * faces m + 8 * sum (led m.next) m.n =
      each_ring face_text (corners_from m backward) m.next m.n (λ h b. omega (arith, face_long (corners_from m backward h) (face_in m l backward h b), face_corners backward h b)) in
      let v = seven (vertices m) (omega (arith, count_le (leads (turn m)) m.n, l.few)) in
      let f = seven (faces m) (omega (arith, count_le (leads m.next) m.n, l.few)) in
      omega (arith, parts_long (vertices m) (faces m) ps fs, faces_all)
