-- Of a mesh that was made from a sheet, that sheet is written.
use Rattle.std.proofs.Common.{◌≡◌, ℕ, zero, suc, ◌+◌, ◌-◌, ◌<◌, ◌≤◌, Bool, true, false, List, [], ◌∷◌, ◌++◌, map, length, get_or, take, filter, sym, refl, ap, ◌∙◌, ⊎_elim, append_assoc, suc-add, zero-add, arith, length-append}
use Rattle.std.specs.List.{range_with_len, AllByRecursion}
use Rattle.std.proofs.lemmas.List.FromFn.{length-range_with_len, get_or-range_with_len, get_or-map-range_with_len, length-map-range_with_len, fill_by_all}
use Rattle.std.proofs.lemmas.Grind.{flat_map-append}
use Rattle.std.proofs.lemmas.List.Elements.{filter-append}
use Rattle.std.proofs.ByRecursion.{All-from_get_or, All-get_or}
use Rattle.std.proofs.lemmas.List.{length-map, get_or-map, get_or_at, get_or-append-add, get_or_append_left, take_at, flat_map_more}
use Rattle.std.proofs.lemmas.Bool.{cases_Bool, cases_lt, cond-true, cond-false}
use Rattle.mesh.specs.Mesh.{Mesh, Lawful, turn, ring, times}
use Rattle.mesh.specs.Count.{leads, rings, vertices, leaders}
use Rattle.mesh.proofs.Rings.{on_steps, on_sym, ring_at, ring_pos, ring_same}
use Rattle.mesh.proofs.Leads.{decides_leads}
use Rattle.mesh.proofs.Ranks.{rank_below, rank_every}
use Rattle.sheet.specs.Sheet.{Sheet, corners_of, corner_count, PointIn}
use Rattle.point.specs.declared.solid.SolidRecord.{SolidRecord}
use Rattle.writer.specs.Points.{origin, meant, point_at}
use Rattle.writer.specs.Listing.{lead, vertex_of, corners_from, sheet_of}
use Rattle.writer.specs.Drawn.{Drawn, corner_at, start}
use Rattle.mesh.proofs.Leaders.{leaders_count}
use Rattle.writer.proofs.Leaders.{leaders_at, lead_on, lead_down, lead_lead, lead_leads, lead_short}
use Rattle.writer.proofs.Limits.{vertex_below, meant_same}

-- a count that goes on
counting_append : (a j k : ℕ) → range_with_len a (j + k) ≡ range_with_len a j ++ range_with_len (a + j) k
counting_append a zero k = ap (range_with_len a) (zero-add k) ∙ ap (λ x. range_with_len x k) (let e : a ≡ a + 0 = omega arith in e)
counting_append a (suc j) k =
    ap (range_with_len a) (suc-add j k)
    ∙ ap (λ x. a ∷ x) (counting_append (a + 1) j k)
    ∙ ap (λ x. a ∷ (range_with_len (a + 1) j ++ range_with_len x k)) (let e : a + 1 + j ≡ a + suc j = omega arith in e)

kept_none : (p : ℕ → Bool) (xs : List ℕ) → AllByRecursion (λ x. p x ≡ false) xs → filter p xs ≡ []
kept_none p [] a = refl
kept_none p (x ∷ xs) a = cond-false (p x) (x ∷ filter p xs) (filter p xs) a.0 ∙ kept_none p xs a.1

-- of the darts of a ring that are numbered on from a, a alone leads
run_leader : (f : ℕ → ℕ) (a k : ℕ) → length (ring f a) ≤ 64 → ring f a ≡ range_with_len a k → filter (leads f) (range_with_len a k) ≡ a ∷ []
run_leader f a zero s e = absurd (omega (arith, ap length e, ring_pos f a))
run_leader f a (suc k) s e =
    cond-true (leads f a) (a ∷ filter (leads f) (range_with_len (a + 1) k)) (filter (leads f) (range_with_len (a + 1) k)) first
    ∙ ap (λ x. a ∷ x) (kept_none (leads f) (range_with_len (a + 1) k) rest)
  where
    long : length (ring f a) ≡ suc k
    long = ap length e ∙ length-range_with_len a (suc k)

    at : (i : ℕ) → i < suc k → times i f a ≡ a + i
    at i b = sym (ring_at f a i (omega (arith, long))) ∙ ap (λ x. get_or x i 0) e ∙ get_or-range_with_len a (suc k) i 0 b

    first : leads f a ≡ true
    first =
        (decides_leads f a s).1
        (λ j. let o = on_steps f a s j in let b : o.0 < length (ring f a) = o.1 in omega (arith, o.2, at o.0 (omega (arith, long))))

    follows : (i : ℕ) → i < k → leads f (a + 1 + i) ≡ false
    follows i b =
        let t : times (suc i) f a ≡ a + suc i = at (suc i) (omega arith) in
        let d : times (suc i) f a ≡ a + 1 + i = omega (arith, t) in
        let back = on_sym f a (times (suc i) f a) s (on_steps f a s (suc i)) in
        ⊎_elim
        (λ y.
        let short : length (ring f (times (suc i) f a)) ≤ 64 = omega (arith, ring_same f a s (suc i)) in
        absurd (omega (arith, (decides_leads f (times (suc i) f a) short).0 (ap (leads f) d ∙ y) back.0, back.2)))
        (λ y. y)
        (cases_Bool (leads f (a + 1 + i)))

    rest : AllByRecursion (λ x. leads f x ≡ false) (range_with_len (a + 1) k)
    rest =
        All-from_get_or (λ x. leads f x ≡ false) (range_with_len (a + 1) k) 0
        (λ i b.
        let l : i < k = omega (arith, length-range_with_len (a + 1) k) in
        ap (leads f) (get_or-range_with_len (a + 1) k i 0 l) ∙ follows i l)

module _ (s : Sheet) (m : Mesh) (l : Lawful m) (table : List SolidRecord) (D : Drawn s m table) where
  -- a dart below k that leads its vertex names the next vertex in order
  abbrev Named : ℕ → Type 0
  Named k = (h : ℕ) → h < k → h < m.n → leads (turn m) h ≡ true → corner_at s h ≡ rings (turn m) h

  leader_named : (k : ℕ) → Named k
  leader_named zero h b c e = absurd (omega arith)
  leader_named (suc k) h b c e =
      ⊎_elim (λ low. absurd (taken (leader_named k) low)) (λ ge. ⊎_elim (λ high. absurd (skipped (leader_named k) high)) (λ le. omega arith) (cases_lt (rings (turn m) h) (corner_at s h)))
      (cases_lt (corner_at s h) (rings (turn m) h))
    where
      -- the number was given to an earlier vertex
      taken : Named k → corner_at s h < rings (turn m) h → ⊥
      taken before low =
          let q = rank_every (leads (turn m)) h (corner_at s h) low in
          let y = q.0 in
          let same : corner_at s h ≡ corner_at s y = sym (before y (omega (arith, q.1)) (omega (arith, q.1)) q.2 ∙ q.3) in
          let o = D.one_ring h y c (omega (arith, q.1)) same in
          omega (arith, (decides_leads (turn m) h (l.vertices_short h c)).0 e o.0, o.1, q.1)

      -- the number before it was not given to any
      skipped : Named k → rings (turn m) h < corner_at s h → ⊥
      skipped before high =
          let v = corner_at s h - 1 in
          let q = D.in_order h v c (omega arith) in
          let d = q.0 in
          let b' : d < m.n = omega (arith, q.1) in
          let sh = l.vertices_short d b' in
          let o = lead_on (turn m) d sh in
          let x = lead (turn m) d in
          let lx : leads (turn m) x ≡ true = lead_leads (turn m) x (lead_short (turn m) d sh) (lead_lead (turn m) d sh) in
          let down : x ≤ d = lead_down (turn m) d sh in
          let named : corner_at s x ≡ v = ap (corner_at s) (sym o.2) ∙ D.one_vertex d o.0 b' ∙ q.2 in
          let given : corner_at s x ≡ rings (turn m) x = before x (omega (arith, q.1)) (omega arith) lx in
          omega (arith, rank_below (leads (turn m)) x h lx (omega (arith, q.1)), named, given)

  -- each dart has the number of its corner
  named : (h : ℕ) → h < m.n → vertex_of m h ≡ corner_at s h
  named h b =
      let f = turn m in
      let sh = l.vertices_short h b in
      let o = lead_on f h sh in
      let x = lead f h in
      let down : x ≤ h = lead_down f h sh in
      sym (leader_named m.n x (omega arith) (omega arith) (lead_leads f x (lead_short f h sh) (lead_lead f h sh)))
      ∙ ap (corner_at s) (sym o.2) ∙ D.one_vertex h o.0 b

  -- as many vertices as points
  as_many : vertices m ≡ length s.points
  as_many =
      ⊎_elim
      (λ few.
      let u = D.used (vertices m) few in
      absurd (omega (arith, vertex_below m l u.0 u.1, named u.0 u.1, u.2)))
      (λ ge. ⊎_elim
      (λ more.
      let q = rank_every (leads (turn m)) m.n (length s.points) more in
      absurd (omega (arith, leader_named m.n q.0 q.1 q.1 q.2, q.3, D.known q.0 q.1)))
      (λ le. omega arith)
      (cases_lt (length s.points) (vertices m)))
      (cases_lt (vertices m) (length s.points))

  points_again : map (point_at table) (leaders (turn m) m.n) ≡ s.points
  points_again =
      fill_by_all given (map (point_at table) (leaders (turn m) m.n)) (length s.points) origin long at
      ∙ sym (fill_by_all given s.points (length s.points) origin refl (λ k b. refl))
    where
      given : ℕ → SolidRecord
      given k = get_or s.points k origin

      long : length (map (point_at table) (leaders (turn m) m.n)) ≡ length s.points
      long = length-map (leaders (turn m) m.n) (point_at table) ∙ leaders_count (turn m) m.n ∙ as_many

      at : (k : ℕ) → k < length s.points → get_or (map (point_at table) (leaders (turn m) m.n)) k origin ≡ given k
      at k b =
          let q = rank_every (leads (turn m)) m.n k (omega (arith, as_many)) in
          let y = q.0 in
          let i = leaders_at (turn m) y q.2 m.n q.1 in
          let here : get_or (leaders (turn m) m.n) k 0 ≡ y = ap (λ x. get_or (leaders (turn m) m.n) x 0) (sym q.3) ∙ i.here in
          get_or-map (point_at table) (leaders (turn m) m.n) k 0 origin (omega (arith, i.inside, q.3))
          ∙ ap (point_at table) here ∙ ap meant (D.points y q.1)
          ∙ meant_same (given (corner_at s y)) (All-get_or PointIn s.points (corner_at s y) origin (D.known y q.1) D.ranged.points_in)
          ∙ ap given (leader_named m.n y q.1 q.1 q.2 ∙ q.3)

  -- the corners of a face that stands after others
  corners_again : (pre : List (List ℕ)) (vs : List ℕ) (fs : List (List ℕ)) → s.faces ≡ pre ++ vs ∷ fs →
      ring m.next (corner_count pre) ≡ range_with_len (corner_count pre) (length vs) → corners_from m false (corner_count pre) ≡ vs
  corners_again pre vs fs e r =
      ap (map (vertex_of m)) r
      ∙ fill_by_all given (map (vertex_of m) (range_with_len a (length vs))) (length vs) 0 (length-map-range_with_len (vertex_of m) a (length vs)) at
      ∙ sym (fill_by_all given vs (length vs) 0 refl (λ k b. refl))
    where
      a : ℕ
      a = corner_count pre

      given : ℕ → ℕ
      given k = get_or vs k 0

      all : corners_of s.faces ≡ corners_of pre ++ (vs ++ corners_of fs)
      all = ap corners_of e ∙ flat_map-append (λ x. x) pre (vs ∷ fs)

      at : (k : ℕ) → k < length vs → get_or (map (vertex_of m) (range_with_len a (length vs))) k 0 ≡ given k
      at k b =
          let size : length (corners_of s.faces) ≡ a + (length vs + corner_count fs) =
          ap length all ∙ length-append (corners_of pre) (vs ++ corners_of fs) ∙ ap (λ x. a + x) (length-append vs (corners_of fs)) in
          get_or-map-range_with_len (vertex_of m) a (length vs) k (a + k) 0 b refl
          ∙ named (a + k) (omega (arith, size, D.darts))
          ∙ ap (λ x. get_or x (a + k) 0) all ∙ get_or-append-add (corners_of pre) (vs ++ corners_of fs) k 0
          ∙ get_or_append_left vs (corners_of fs) 0 k b

  faces_from : (pre fs : List (List ℕ)) → s.faces ≡ pre ++ fs →
      map (corners_from m false) (filter (leads m.next) (range_with_len (corner_count pre) (corner_count fs))) ≡ fs
  faces_from pre [] e = refl
  faces_from pre (vs ∷ fs) e =
      ap (λ x. map g (filter p (range_with_len a x))) (length-append vs (corners_of fs))
      ∙ ap (λ x. map g (filter p x)) (counting_append a (length vs) (corner_count fs))
      ∙ ap (map g) (filter-append p (range_with_len a (length vs)) (range_with_len (a + length vs) (corner_count fs)))
      ∙ ap (λ x. map g (x ++ filter p (range_with_len (a + length vs) (corner_count fs)))) (run_leader m.next a (length vs) (l.faces_short a below) r)
      ∙ ap (λ x. x ∷ map g (filter p (range_with_len (a + length vs) (corner_count fs)))) (corners_again pre vs fs e r)
      ∙ ap (λ x. vs ∷ map g (filter p (range_with_len x (corner_count fs)))) next_start
      ∙ ap (λ x. vs ∷ x) (faces_from (pre ++ vs ∷ []) fs (e ∙ sym (append_assoc pre (vs ∷ []) fs)))
    where
      a : ℕ
      a = corner_count pre

      g : ℕ → List ℕ
      g = corners_from m false

      p : ℕ → Bool
      p = leads m.next

      r : ring m.next a ≡ range_with_len a (length vs)
      r =
          let begins : start s (length pre) ≡ a = ap (λ x. corner_count (take (length pre) x)) e ∙ ap corner_count (take_at pre (vs ∷ fs) (length pre) refl) in
          let is : get_or s.faces (length pre) [] ≡ vs = ap (λ x. get_or x (length pre) []) e ∙ get_or_at pre vs fs [] (length pre) refl in
          let some : length pre < length s.faces = omega (arith, ap length e, length-append pre (vs ∷ fs)) in
          ap (ring m.next) (sym begins) ∙ D.face_rings (length pre) some
          ∙ ap (λ x. range_with_len x (length (get_or s.faces (length pre) []))) begins ∙ ap (λ x. range_with_len a (length x)) is

      below : a < m.n
      below =
          let k : 0 < length vs = omega (arith, ap length r, length-range_with_len a (length vs), ring_pos m.next a) in
          omega (
            arith,
            D.darts,
            ap (λ x. length (corners_of x)) e,
            ap length (flat_map-append (λ x. x) pre (vs ∷ fs)),
            length-append (corners_of pre) (vs ++ corners_of fs),
            length-append vs (corners_of fs),
          )

      next_start : a + length vs ≡ corner_count (pre ++ vs ∷ [])
      next_start = sym (ap length (sym (flat_map_more (λ x. x) [] pre vs)) ∙ length-append (corners_of pre) vs)

  faces_again : map (corners_from m false) (leaders m.next m.n) ≡ s.faces
  unfolding leaders
  faces_again = ap (λ x. map (corners_from m false) (filter (leads m.next) (range_with_len 0 x))) D.darts ∙ faces_from [] s.faces refl

  again : sheet_of m table false ≡ s
  again = λ i. record { points = points_again i; faces = faces_again i }

pub same : (m : Mesh) → Lawful m → (table : List SolidRecord) (backward : Bool) (s : Sheet) → Drawn s m table → backward ≡ false → sheet_of m table backward ≡ s
same m l table backward s D e = ap (sheet_of m table) e ∙ again s m l table D
