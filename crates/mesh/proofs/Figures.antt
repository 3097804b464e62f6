-- The counts of Dual, Quad and split.
use Rattle.std.proofs.Common.{◌≡◌, ℕ, ◌+◌, ◌*◌, ◌/◌, ◌<◌, ◌≤◌, Bool, true, false, leb, ◌⊎◌, length, pos, ◌-ℤ◌, Decides, sym, refl, ap, ◌∙◌, ap₂, inl, inr, arith}
use Rattle.std.proofs.lemmas.Bool.Decides.{nat_tests}
use Rattle.std.proofs.lemmas.Int.{ints}
use Rattle.std.proofs.lemmas.Bool.{cond-true, le-leb}
use Rattle.mesh.specs.Mesh.{Mesh, Lawful, Same, ring, turn, dual, quad}
use Rattle.mesh.specs.Count.{sum, bit, leads, rings, faces, vertices, edges, figure, split, DualCounts, QuadCounts, SplitCounts}
use Rattle.mesh.proofs.Rings.{inverse_long}
use Rattle.mesh.proofs.DualLaws.{turn_below, dual_turn}
use Rattle.mesh.proofs.QuadLaws.{quad_lawful, next0, next1, next2, next3, turn0, turn1, turn2, turn3}
use Rattle.mesh.proofs.QuadRings.{quad_vertex, quad_middle}
use Rattle.mesh.proofs.Sums.{Swaps, sum_same, sum_add, sum_zero, sum_one, sum_moved, sum_four}
use Rattle.mesh.proofs.Leads.{leads_along, leads_back, rings_same, Four, four_next, decides_four, vertices_same, faces_same}

-- ---- dual
pub vertices_dual : (m : Mesh) → Lawful m → vertices (dual m) ≡ faces m
vertices_dual m l = sym (rings_same m.n m.next (turn (dual m)) l.next_below (λ h b. sym (dual_turn m l h b)))

-- ---- faces of four darts, each led by its dart 0
not_true : (b : Bool) → (b ≡ true → ⊥) → bit b ≡ 0
not_true true f = absurd (f refl)
not_true false f = refl

faces_four : (n : ℕ) (F : ℕ → ℕ) → ((h : ℕ) → Four F (4 * h) (4 * h + 1) (4 * h + 2) (4 * h + 3)) → rings F (4 * n) ≡ n
faces_four n F round =
    let e0 : sum (λ h. bit (leads F (4 * h))) n ≡ n =
    sum_same n (λ h. bit (leads F (4 * h))) (λ h. 1)
    (λ h l. ap bit ((decides_four F _ _ _ _ (round h)).1 (omega arith, omega arith, omega arith))) ∙ sum_one n in
    let e1 : sum (λ h. bit (leads F (4 * h + 1))) n ≡ 0 =
    sum_same n (λ h. bit (leads F (4 * h + 1))) (λ h. 0)
    (λ h l. not_true _ (λ e. let f = (decides_four F _ _ _ _ (four_next (round h))).0 e in omega arith)) ∙ sum_zero n in
    let e2 : sum (λ h. bit (leads F (4 * h + 2))) n ≡ 0 =
    sum_same n (λ h. bit (leads F (4 * h + 2))) (λ h. 0)
    (λ h l. not_true _ (λ e. let f = (decides_four F _ _ _ _ (four_next (four_next (round h)))).0 e in omega arith)) ∙ sum_zero n in
    let e3 : sum (λ h. bit (leads F (4 * h + 3))) n ≡ 0 =
    sum_same n (λ h. bit (leads F (4 * h + 3))) (λ h. 0)
    (λ h l. not_true _ (λ e. let f = (decides_four F _ _ _ _ (four_next (four_next (four_next (round h))))).0 e in omega arith)) ∙ sum_zero n in
    omega (arith, sum_four n (λ h. bit (leads F h)))

round_quad : (m : Mesh) (h : ℕ) → Four (quad m).next (4 * h) (4 * h + 1) (4 * h + 2) (4 * h + 3)
round_quad m h = record { first = next0 m h; second = next1 m h; third = next2 m h; fourth = next3 m h }

-- ---- vertices: T turns about the old vertices, edges and faces
-- whether x is the least of four, as a number
bit_least : (b : Bool) (x y z w : ℕ) → Decides b ((x ≤ y) × (x ≤ z) × (x ≤ w)) →
    ((bit b ≡ 1) × ((x ≤ y) × (x ≤ z) × (x ≤ w))) ⊎ ((bit b ≡ 0) × ((y < x) ⊎ ((z < x) ⊎ (w < x))))
bit_least true x y z w d = inl (refl, d.0 refl)
bit_least false x y z w d = inr (refl, grind (arith, nat_tests, d.1))

-- whether x is the least of four: a is 1 if so, else 0
abbrev Marks : (a x y z w : ℕ) → Type 0
Marks a x y z w = ((a ≡ 1) × ((x ≤ y) × (x ≤ z) × (x ≤ w))) ⊎ ((a ≡ 0) × ((y < x) ⊎ ((z < x) ⊎ (w < x))))

some_least : (x y z w : ℕ) → (y < x) ⊎ ((z < x) ⊎ (w < x)) → (z < y) ⊎ ((w < y) ⊎ (x < y)) → (w < z) ⊎ ((x < z) ⊎ (y < z)) →
    (x < w) ⊎ ((y < w) ⊎ (z < w)) → ⊥
some_least x y z w p q r s = omega arith

-- exactly one of four different numbers is the least
one_least : (a b c d x y z w : ℕ) → (x ≡ z → ⊥) → (y ≡ w → ⊥) → (x ≡ y → ⊥) → (x ≡ w → ⊥) → (y ≡ z → ⊥) → (z ≡ w → ⊥) →
    Marks a x y z w → Marks b y z w x → Marks c z w x y → Marks d w x y z → (a + b) + (c + d) ≡ 1
one_least a b c d x y z w n1 n2 n3 n4 n5 n6 (inl p) (inl q) r s = absurd (omega (arith, p.1.0, q.1.2, n3))
one_least a b c d x y z w n1 n2 n3 n4 n5 n6 (inl p) (inr q) (inl r) s = absurd (omega (arith, p.1.1, r.1.1, n1))
one_least a b c d x y z w n1 n2 n3 n4 n5 n6 (inl p) (inr q) (inr r) (inl s) = absurd (omega (arith, p.1.2, s.1.0, n4))
one_least a b c d x y z w n1 n2 n3 n4 n5 n6 (inl p) (inr q) (inr r) (inr s) = omega (arith, p.0, q.0, r.0, s.0)
one_least a b c d x y z w n1 n2 n3 n4 n5 n6 (inr p) (inl q) (inl r) s = absurd (omega (arith, q.1.0, r.1.2, n5))
one_least a b c d x y z w n1 n2 n3 n4 n5 n6 (inr p) (inl q) (inr r) (inl s) = absurd (omega (arith, q.1.1, s.1.1, n2))
one_least a b c d x y z w n1 n2 n3 n4 n5 n6 (inr p) (inl q) (inr r) (inr s) = omega (arith, p.0, q.0, r.0, s.0)
one_least a b c d x y z w n1 n2 n3 n4 n5 n6 (inr p) (inr q) (inl r) (inl s) = absurd (omega (arith, r.1.0, s.1.2, n6))
one_least a b c d x y z w n1 n2 n3 n4 n5 n6 (inr p) (inr q) (inl r) (inr s) = omega (arith, p.0, q.0, r.0, s.0)
one_least a b c d x y z w n1 n2 n3 n4 n5 n6 (inr p) (inr q) (inr r) (inl s) = omega (arith, p.0, q.0, r.0, s.0)
one_least a b c d x y z w n1 n2 n3 n4 n5 n6 (inr p) (inr q) (inr r) (inr s) = absurd (some_least x y z w p.1 q.1 r.1 s.1)

module _ (m : Mesh) (l : Lawful m) (T : ℕ → ℕ)
    (t0 : (h : ℕ) → T (4 * h) ≡ 4 * turn m h) (t1 : (h : ℕ) → T (4 * h + 1) ≡ 4 * m.next h + 3)
    (t2 : (h : ℕ) → T (4 * h + 2) ≡ 4 * m.prev h + 2) (t3 : (h : ℕ) → T (4 * h + 3) ≡ 4 * m.twin (m.prev h) + 1)
    (s0 : (h : ℕ) → h < m.n → length (ring T (4 * h)) ≡ length (ring (turn m) h))
    (s2 : (h : ℕ) → h < m.n → length (ring T (4 * h + 2)) ≡ length (ring m.next h))
  where
    -- the ring of four round the middle of an edge
    round_edge : (h : ℕ) → h < m.n → Four T (4 * h + 1) (4 * m.next h + 3) (4 * m.twin h + 1) (4 * m.next (m.twin h) + 3)
    round_edge h b =
        record {
          first = t1 h;
          second = t3 (m.next h) ∙ ap (λ x. 4 * m.twin x + 1) (l.prev_next h b);
          third = t1 (m.twin h);
          fourth = t3 (m.next (m.twin h)) ∙ ap (λ x. 4 * m.twin x + 1) (l.prev_next (m.twin h) (l.twin_below h b)) ∙ ap (λ x. 4 * x + 1) (l.twin_twin h b);
        }

    -- of the four darts at an edge's middle, one leads
    edge_leads : (h : ℕ) → h < m.n →
        (bit (leads T (4 * h + 1)) + bit (leads T (4 * m.next h + 3))) + (bit (leads T (4 * m.twin h + 1)) + bit (leads T (4 * m.next (m.twin h) + 3))) ≡ 1
    edge_leads h b =
        let q = round_edge h b in
        one_least _ _ _ _ (4 * h + 1) (4 * m.next h + 3) (4 * m.twin h + 1) (4 * m.next (m.twin h) + 3)
        (λ e. l.twin_other h b (omega arith))
        (λ e. l.twin_other h b (sym (l.prev_next (m.twin h) (l.twin_below h b)) ∙ ap m.prev (omega arith) ∙ l.prev_next h b))
        (λ e. omega arith)
        (λ e. omega arith)
        (λ e. omega arith)
        (λ e. omega arith)
        (bit_least _ _ _ _ _ (decides_four T _ _ _ _ q))
        (bit_least _ _ _ _ _ (decides_four T _ _ _ _ (four_next q)))
        (bit_least _ _ _ _ _ (decides_four T _ _ _ _ (four_next (four_next q))))
        (bit_least _ _ _ _ _ (decides_four T _ _ _ _ (four_next (four_next (four_next q)))))

    -- twice the edge middles are the darts
    edge_middles : 2 * (sum (λ h. bit (leads T (4 * h + 1))) m.n + sum (λ h. bit (leads T (4 * h + 3))) m.n) ≡ m.n
    edge_middles =
        let A : ℕ → ℕ = λ h. bit (leads T (4 * h + 1)) in
        let B : ℕ → ℕ = λ h. bit (leads T (4 * h + 3)) in
        let C : ℕ → ℕ = λ h. A h + B (m.next h) in
        let nexts : Swaps m.n m.next m.prev = record { there = l.next_below; back = l.prev_below; there_back = l.next_prev; back_there = l.prev_next } in
        let twins : Swaps m.n m.twin m.twin = record { there = l.twin_below; back = l.twin_below; there_back = l.twin_twin; back_there = l.twin_twin } in
        let e1 : sum B m.n ≡ sum (λ h. B (m.next h)) m.n = sum_moved m.n B m.next m.prev nexts in
        let e2 : sum C m.n ≡ sum A m.n + sum (λ h. B (m.next h)) m.n = sum_add m.n A (λ h. B (m.next h)) in
        let e3 : sum C m.n ≡ sum (λ h. C (m.twin h)) m.n = sum_moved m.n C m.twin m.twin twins in
        let e4 : sum (λ h. C h + C (m.twin h)) m.n ≡ sum C m.n + sum (λ h. C (m.twin h)) m.n = sum_add m.n C (λ h. C (m.twin h)) in
        let e5 : sum (λ h. C h + C (m.twin h)) m.n ≡ m.n = sum_same m.n (λ h. C h + C (m.twin h)) (λ h. 1) edge_leads ∙ sum_one m.n in
        omega arith

    even_by : 2 * (m.n / 2) ≡ m.n
    even_by = omega (arith, edge_middles)

    vertices_four : rings T (4 * m.n) ≡ vertices m + edges m + faces m
    vertices_four =
        let e0 : sum (λ h. bit (leads T (4 * h))) m.n ≡ vertices m =
        sum_same m.n _ _ (λ h b. ap bit (leads_along m.n (turn m) T (λ x. 4 * x) (turn_below m l) (λ x _. t0 x)
        (λ x y k. omega arith) (λ x y k. omega arith) h b (l.vertices_short h b) (omega (arith, s0 h b, l.vertices_short h b)))) in
        let e2 : sum (λ h. bit (leads T (4 * h + 2))) m.n ≡ faces m =
        sum_same m.n _ _ (λ h b. ap bit (middle h b)) in
        omega (arith, sum_four m.n (λ h. bit (leads T h)), edge_middles)
      where
        middle : (h : ℕ) → h < m.n → leads T (4 * h + 2) ≡ leads m.next h
        middle h b =
            let e : length (ring m.prev h) ≡ length (ring m.next h) =
            inverse_long m.n m.next m.prev l.next_below l.prev_below l.prev_next l.next_prev h b (l.faces_short h b) in
            leads_along m.n m.prev T (λ x. 4 * x + 2) l.prev_below (λ x _. t2 x) (λ x y k. omega arith) (λ x y k. omega arith) h b
            (omega (arith, e, l.faces_short h b)) (omega (arith, s2 h b, l.faces_short h b))
            ∙ leads_back m.n m.next m.prev l.next_below l.prev_below l.prev_next l.next_prev h b (l.faces_short h b)

diff_same : (a b c d : ℕ) → a + d ≡ c + b → pos a -ℤ pos b ≡ pos c -ℤ pos d
diff_same a b c d e = omega (arith, ints)

pub even : (m : Mesh) → Lawful m → 2 * edges m ≡ m.n
even m l = even_by m l (turn (quad m)) (turn0 m) (turn1 m) (turn2 m) (turn3 m) (quad_vertex m l) (quad_middle m l)

pub figure_same : {a b : Mesh} → Lawful a → Same a b → figure a ≡ figure b
figure_same {a} {b} l s =
    ap (λ x. pos x -ℤ pos (edges a)) (ap₂ ◌+◌ (vertices_same a b l s) (faces_same a b l s)) ∙ ap (λ n. pos (vertices b + faces b) -ℤ pos (n / 2)) s.n

pub figure_dual : (m : Mesh) → Lawful m → figure (dual m) ≡ figure m
figure_dual m l =
    diff_same (vertices (dual m) + faces (dual m)) (edges (dual m)) (vertices m + faces m) (edges m) (omega (arith, vertices_dual m l))

-- a Quad that is not cut off
module _ (m : Mesh) (l : Lawful m) (small : m.n ≤ 262144) where
  pub quad_size : (quad m).n ≡ 4 * m.n
  quad_size = cond-true (leb m.n 262144) (4 * m.n) 0 (le-leb m.n 262144 small)

  pub faces_quad : faces (quad m) ≡ m.n
  faces_quad = ap (rings (quad m).next) quad_size ∙ faces_four m.n (quad m).next (round_quad m)

  pub vertices_quad : vertices (quad m) ≡ vertices m + edges m + faces m
  vertices_quad =
      ap (rings (turn (quad m))) quad_size
      ∙ vertices_four m l (turn (quad m)) (turn0 m) (turn1 m) (turn2 m) (turn3 m) (quad_vertex m l) (quad_middle m l)

  pub edges_quad : edges (quad m) ≡ 2 * m.n
  edges_quad = ap (λ x. x / 2) quad_size ∙ (let q : 4 * m.n / 2 ≡ 2 * m.n = omega arith in q)

  pub figure_quad : figure (quad m) ≡ figure m
  figure_quad =
      diff_same (vertices (quad m) + faces (quad m)) (edges (quad m)) (vertices m + faces m) (edges m)
      (omega (arith, vertices_quad, faces_quad, edges_quad, even m l))

  pub figure_split : figure (split m) ≡ figure m
  figure_split = figure_dual (quad m) (quad_lawful m l) ∙ figure_quad

pub dual_counts : (m : Mesh) → Lawful m → DualCounts m
dual_counts m l = record { vertices_are = vertices_dual m l; edges_are = refl; faces_are = refl; figure_is = figure_dual m l }

pub quad_counts : (m : Mesh) → Lawful m → m.n ≤ 262144 → QuadCounts m
quad_counts m l b =
    record { vertices_are = vertices_quad m l b; edges_are = edges_quad m l b; faces_are = faces_quad m l b; figure_is = figure_quad m l b }

pub split_counts : (m : Mesh) → Lawful m → m.n ≤ 262144 → SplitCounts m
split_counts m l b =
    record {
      vertices_are = vertices_dual (quad m) (quad_lawful m l) ∙ faces_quad m l b;
      edges_are = edges_quad m l b;
      faces_are = vertices_quad m l b;
      figure_is = figure_split m l b;
    }
