-- Every number of a written sheet is within its limits.
use Rattle.std.proofs.Common.{◌≡◌, ℕ, zero, suc, ◌+◌, ◌<◌, ◌≤◌, Bool, List, length, get_or, ℤ, Some, None, Option, sym, refl, ◌∙◌, subst, arith, lit≤}
use Rattle.std.specs.List.{range_with_len, AllByRecursion}
use Rattle.std.proofs.lemmas.List.FromFn.{length-range_with_len, get_or-range_with_len}
use Rattle.std.proofs.ByRecursion.{All-from_get_or, All-get_or, All-map, all_kept_by}
use Rattle.std.proofs.lemmas.List.{length-map}
use Rattle.mesh.specs.Mesh.{Mesh, Lawful, turn, ring}
use Rattle.mesh.specs.Count.{leads, vertices, leaders}
use Rattle.mesh.proofs.Rings.{ring_at, ring_pos, times_keeps}
use Rattle.mesh.proofs.Leads.{count_le}
use Rattle.point.specs.Checked.{no_fault}
use Rattle.point.specs.Made.{range_fault}
use Rattle.point.specs.Points.{coordinate}
use Rattle.point.specs.Range.{InRange}
use Rattle.point.specs.Solids.{three, point_by, meant_by}
use Rattle.point.specs.declared.fault.PointFault.{PointFault}
use Rattle.point.specs.MadeLemmas.{range_none}
use Rattle.point.specs.SolidPoints.{within}
use Rattle.sheet.specs.Sheet.{PointIn, FaceIn, Ranged}
use Rattle.point.specs.declared.solid.SolidRecord.{SolidRecord}
use Rattle.writer.specs.Points.{record_of, origin, meant, point_at}
use Rattle.writer.specs.Listing.{vertex_of, way, corners_from, sheet_of}
use Rattle.mesh.proofs.Leaders.{leaders_count}
use Rattle.writer.proofs.Leaders.{lead_at}
use Rattle.writer.proofs.Numbering.{way_rounds}
use Rattle.writer.proofs.Turns.{Came}

pub point_in : (r : SolidRecord) → PointIn (meant r)
point_in r = (within (meant_by r) 0, within (meant_by r) 1, within (meant_by r) 2)

-- a record in range means its own numbers
pub meant_same : (r : SolidRecord) → PointIn r → meant r ≡ r
meant_same r i = go (range_fault 0 zs) refl
  where
    zs : List ℤ
    zs = three r.x r.y r.z

    all : (k : ℕ) → InRange (coordinate zs k)
    all zero = i.0
    all (suc zero) = i.1
    all (suc (suc zero)) = i.2
    all (suc (suc (suc k))) = lit≤ tt

    go : (o : Option PointFault) (e : range_fault 0 zs ≡ o) → record_of (point_by r.x r.y r.z o e) ≡ r
    go None e = refl
    go (Some y) e = no_fault y (sym e ∙ range_none 0 zs all)

-- what holds of every dart holds of those that lead
pub leaders_all : (f : ℕ → ℕ) (n : ℕ) (P : ℕ → Type 0) → ((h : ℕ) → h < n → P h) → AllByRecursion P (leaders f n)
unfolding leaders
leaders_all f n P a =
    all_kept_by (leads f) P (range_with_len 0 n)
    (All-from_get_or P (range_with_len 0 n) 0
    (λ i b.
    let l : i < n = omega (arith, length-range_with_len 0 n) in
    let e : i ≡ get_or (range_with_len 0 n) i 0 = sym (get_or-range_with_len 0 n i 0 l ∙ (let z : 0 + i ≡ i = omega arith in z)) in
    subst P e (a i l)))

-- a dart that comes in a loop over those that lead is one
pub leader_below : (f : ℕ → ℕ) (n : ℕ) (xs : List ℕ) (h : ℕ) → Came (leaders f n) xs h → h < n
leader_below f n xs h c =
    subst (λ x. x < n) (sym c.here) (All-get_or (λ x. x < n) (leaders f n) (length xs) h c.inside (leaders_all f n (λ x. x < n) (λ x b. b)))

module _ (m : Mesh) (l : Lawful m) where
  pub vertex_below : (h : ℕ) → h < m.n → vertex_of m h < vertices m
  vertex_below h b = omega (arith, (lead_at (turn m) m.n h l.vertices_short b).inside, leaders_count (turn m) m.n)

  pub face_in : (backward : Bool) (h : ℕ) → h < m.n → FaceIn (corners_from m backward h)
  face_in backward h b =
      let f = way m backward in
      let r = way_rounds m l backward in
      let k : length (corners_from m backward h) ≡ length (ring f h) = length-map (ring f h) (vertex_of m) in (
        omega (arith, ring_pos f h),
        omega (arith, r.short h b),
        All-map (λ v. v ≤ 1048575) (vertex_of m) (ring f h)
            (All-from_get_or (λ d. vertex_of m d ≤ 1048575) (ring f h) 0
            (λ i q.
            let d : get_or (ring f h) i 0 < m.n = subst (λ x. x < m.n) (sym (ring_at f h i q)) (times_keeps m.n f r.below i h b) in
            omega (arith, vertex_below (get_or (ring f h) i 0) d, count_le (leads (turn m)) m.n, l.few))),
      )

  pub ranged : (table : List SolidRecord) (backward : Bool) → Ranged (sheet_of m table backward)
  ranged table backward =
      record {
        few_points = omega (arith, length-map (leaders (turn m) m.n) (point_at table), leaders_count (turn m) m.n, count_le (leads (turn m)) m.n, l.few);
        few_faces = omega (arith, length-map (leaders m.next m.n) (corners_from m backward), leaders_count m.next m.n, count_le (leads m.next) m.n, l.few);
        points_in = All-map PointIn (point_at table) (leaders (turn m) m.n) (leaders_all (turn m) m.n (λ h. PointIn (point_at table h)) (λ h b. point_in (get_or table h origin)));
        faces_in = All-map FaceIn (corners_from m backward) (leaders m.next m.n) (leaders_all m.next m.n (λ h. FaceIn (corners_from m backward h)) (face_in backward));
      }
