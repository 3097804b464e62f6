-- The vertices and faces that a split makes.
use Rattle.std.proofs.Common.{◌≡◌, ℕ, zero, suc, ◌+◌, ◌*◌, ◌<◌, ◌≤◌, ◌∷◌, map, length, sym, refl, ap, ◌∙◌, arith}
use Rattle.mesh.specs.Mesh.{Mesh, Lawful, times, turn, ring, quad}
use Rattle.mesh.specs.Count.{split}
use Rattle.mesh.specs.Shapes.{four_of, SplitShape}
use Rattle.mesh.proofs.Rings.{Keeps, orbit, ring_orbit, ring_exact, times_zero, times_suc, inverse_long}
use Rattle.mesh.proofs.DualLaws.{turn_below, dual_vertex}
use Rattle.mesh.proofs.QuadLaws.{quad_lawful, next0, next1, next2, turn0, turn1, turn2, turn3}
use Rattle.mesh.proofs.QuadRings.{along_long, quad_face}
use Rattle.mesh.proofs.Figures.{quad_size}

orbit_along : (n : ℕ) (f F e : ℕ → ℕ) → Keeps n f → ((x : ℕ) → x < n → F (e x) ≡ e (f x)) → (k h : ℕ) → h < n → orbit k F (e h) ≡ map e (orbit k f h)
orbit_along n f F e keeps along zero h b = refl
orbit_along n f F e keeps along (suc k) h b =
    ap (λ w. e h ∷ w) (ap (orbit k F) (along h b) ∙ orbit_along n f F e keeps along k (f h) (keeps h b))

-- a ring that a one-to-one e carries over
ring_along : (n : ℕ) (f F e : ℕ → ℕ) → Keeps n f → ((x : ℕ) → x < n → F (e x) ≡ e (f x)) → ((x y : ℕ) → e x ≡ e y → x ≡ y) →
    (h : ℕ) → h < n → length (ring f h) ≤ 64 → ring F (e h) ≡ map e (ring f h)
ring_along n f F e keeps along one h b s =
    ring_orbit F (e h) ∙ ap (λ k. orbit k F (e h)) (along_long n f F e keeps along one h b s)
    ∙ orbit_along n f F e keeps along (length (ring f h)) h b ∙ ap (map e) (sym (ring_orbit f h))

-- four steps, each to the next of four darts
orbit_four : (f : ℕ → ℕ) (x y z w : ℕ) → f x ≡ y → f y ≡ z → f z ≡ w → orbit 4 f x ≡ four_of x y z w
orbit_four f x y z w a b c =
    ap (λ u. four_of x u (f u) (f (f u))) a ∙ ap (λ u. four_of x y u (f u)) b ∙ ap (four_of x y z) c

module _ (m : Mesh) (l : Lawful m) (small : m.n ≤ 262144) where
  corner_ring : (h : ℕ) → h < m.n → ring (turn (split m)) (4 * h) ≡ four_of (4 * h) (4 * h + 1) (4 * h + 2) (4 * h + 3)
  corner_ring h b =
      dual_vertex (quad m) (quad_lawful m l) (4 * h) (omega (arith, quad_size m l small))
      ∙ ring_orbit (quad m).next (4 * h) ∙ ap (λ k. orbit k (quad m).next (4 * h)) (quad_face m l (4 * h) (omega arith))
      ∙ orbit_four (quad m).next (4 * h) (4 * h + 1) (4 * h + 2) (4 * h + 3) (next0 m h) (next1 m h) (next2 m h)

  edge_ring : (h : ℕ) → h < m.n → ring (turn (quad m)) (4 * h + 1) ≡ four_of (4 * h + 1) (4 * m.next h + 3) (4 * m.twin h + 1) (4 * turn m h + 3)
  edge_ring h b =
      ring_orbit f x ∙ ap (λ k. orbit k f x) (ring_exact f x 4 (omega arith) (omega arith) back apart) ∙ orbit_four f x y z w s1 s2 s3
    where
      f : ℕ → ℕ
      f = turn (quad m)

      x : ℕ
      x = 4 * h + 1

      y : ℕ
      y = 4 * m.next h + 3

      z : ℕ
      z = 4 * m.twin h + 1

      w : ℕ
      w = 4 * turn m h + 3

      s1 : f x ≡ y
      s1 = turn1 m h

      s2 : f y ≡ z
      s2 = turn3 m (m.next h) ∙ ap (λ u. 4 * m.twin u + 1) (l.prev_next h b)

      s3 : f z ≡ w
      s3 = turn1 m (m.twin h)

      s4 : f w ≡ x
      s4 = turn3 m (turn m h) ∙ ap (λ u. 4 * m.twin u + 1) (l.prev_next (m.twin h) (l.twin_below h b)) ∙ ap (λ u. 4 * u + 1) (l.twin_twin h b)

      t1 : times 1 f x ≡ y
      t1 = times_suc 0 f x ∙ ap f (times_zero f x) ∙ s1

      t2 : times 2 f x ≡ z
      t2 = times_suc 1 f x ∙ ap f t1 ∙ s2

      t3 : times 3 f x ≡ w
      t3 = times_suc 2 f x ∙ ap f t2 ∙ s3

      back : times 4 f x ≡ x
      back = times_suc 3 f x ∙ ap f t3 ∙ s4

      apart : (i : ℕ) → 0 < i → i < 4 → times i f x ≡ x → ⊥
      apart zero p k e = omega arith
      apart (suc zero) p k e = let q : 4 * m.next h + 3 ≡ 4 * h + 1 = sym t1 ∙ e in omega arith
      apart (suc (suc zero)) p k e = let q : 4 * m.twin h + 1 ≡ 4 * h + 1 = sym t2 ∙ e in l.twin_other h b (omega arith)
      apart (suc (suc (suc zero))) p k e = let q : 4 * turn m h + 3 ≡ 4 * h + 1 = sym t3 ∙ e in omega arith
      apart (suc (suc (suc (suc i)))) p k e = omega arith

  pub split_shape : SplitShape m
  split_shape =
      record {
        of_corner = corner_ring;
        of_vertex = λ h b. ring_along m.n (turn m) (turn (quad m)) (λ x. 4 * x) (turn_below m l) (λ x _. turn0 m x) (λ x y e. omega arith) h b (l.vertices_short h b);
        of_edge = edge_ring;
        of_face = λ h b.
            ring_along m.n m.prev (turn (quad m)) (λ x. 4 * x + 2) l.prev_below (λ x _. turn2 m x) (λ x y e. omega arith) h b
            (omega (arith, l.faces_short h b, inverse_long m.n m.next m.prev l.next_below l.prev_below l.prev_next l.next_prev h b (l.faces_short h b)));
      }
