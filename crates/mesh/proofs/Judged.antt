-- Meshes in which no dart is at fault keep the laws.
use Rattle.std.proofs.Common.{◌≡◌, ℕ, ◌+◌, ◌<◌, ◌≤◌, false, not, ◌||◌, eqb, ltb, leb, ◌⊎◌, List, length, None, sym, refl, ap, ◌∙◌, ⊎_elim, arith}
use Rattle.std.proofs.lemmas.Bool.{or_parts, not-false, ltb-true, eqb-true, eqb-false, lt-ltb, leb-true, le-leb, eq-eqb, ne_eqb, cases_eq, cases_lt, lt-leb}
use Rattle.mesh.specs.Mesh.{Mesh, Lawful, ring, turn}
use Rattle.mesh.specs.Smallest.{smallest}
use Rattle.mesh.specs.Tables.{tables, outside, torn, long_ring, overlong, fault_of}
use Rattle.mesh.specs.Mesh.{times}
use Rattle.mesh.proofs.Rings.{ring_bound, ring_back, ring_pos}
use Rattle.mesh.proofs.Smallest.{else_none, none_below, none_from}

below : (a b : ℕ) → not (ltb a b) ≡ false → a < b
below a b e = ltb-true a b (not-false (ltb a b) e)

same : (a b : ℕ) → not (eqb a b) ≡ false → a ≡ b
same a b e = eqb-true a b (not-false (eqb a b) e)

short : (a : ℕ) → not (leb a 64) ≡ false → a ≤ 64
short a e = leb-true a 64 (not-false (leb a 64) e)

pub record Inside (m : Mesh) (h : ℕ) : Type 0 where
  pub next : m.next h < m.n
  pub prev : m.prev h < m.n
  pub twin : m.twin h < m.n

pub inside : (m : Mesh) → smallest m.n (outside m) ≡ None → (h : ℕ) → h < m.n → Inside m h
inside m e h l =
    let t = none_below (outside m) m.n e h l in
    let p = or_parts (not (ltb (m.next h) m.n)) (not (ltb (m.prev h) m.n) || not (ltb (m.twin h) m.n)) t in
    let q = or_parts (not (ltb (m.prev h) m.n)) (not (ltb (m.twin h) m.n)) p.1 in
    record { next = below _ _ p.0; prev = below _ _ q.0; twin = below _ _ q.1 }

record Undone (m : Mesh) (h : ℕ) : Type 0 where
  prev_next : m.prev (m.next h) ≡ h
  next_prev : m.next (m.prev h) ≡ h
  twin_twin : m.twin (m.twin h) ≡ h
  other : m.twin h ≡ h → ⊥

undone : (m : Mesh) → smallest m.n (torn m) ≡ None → (h : ℕ) → h < m.n → Undone m h
undone m e h l =
    let t = none_below (torn m) m.n e h l in
    let b = not (eqb (m.next (m.prev h)) h) in
    let c = not (eqb (m.twin (m.twin h)) h) in
    let d = eqb (m.twin h) h in
    let p = or_parts (not (eqb (m.prev (m.next h)) h)) (b || (c || d)) t in
    let q = or_parts b (c || d) p.1 in
    let r = or_parts c d q.1 in
    record { prev_next = same _ _ p.0; next_prev = same _ _ q.0; twin_twin = same _ _ r.0; other = eqb-false _ _ r.1 }

record Closed (m : Mesh) (h : ℕ) : Type 0 where
  face : length (ring m.next h) ≤ 64
  vertex : length (ring (turn m) h) ≤ 64

closed : (m : Mesh) → smallest m.n (overlong m) ≡ None → (h : ℕ) → h < m.n → Closed m h
closed m e h l =
    let t = none_below (overlong m) m.n e h l in
    let p = or_parts (long_ring m.next h) (long_ring (turn m) h) t in
    record { face = short _ p.0; vertex = short _ p.1 }

pub lawful_from_none : (m : Mesh) → m.n ≤ 1048576 → fault_of m ≡ None → Lawful m
lawful_from_none m few e =
    let a = else_none (smallest m.n (outside m)) _ e in
    let b = else_none (smallest m.n (torn m)) (smallest m.n (overlong m)) a.1 in
    record {
      few = few;
      next_below = λ h l. (inside m a.0 h l).next;
      prev_below = λ h l. (inside m a.0 h l).prev;
      twin_below = λ h l. (inside m a.0 h l).twin;
      next_prev = λ h l. (undone m b.0 h l).next_prev;
      prev_next = λ h l. (undone m b.0 h l).prev_next;
      twin_twin = λ h l. (undone m b.0 h l).twin_twin;
      twin_other = λ h l. (undone m b.0 h l).other;
      faces_short = λ h l. (closed m b.1 h l).face;
      vertices_short = λ h l. (closed m b.1 h l).vertex;
    }

pub empty_lawful : (a b c : List ℕ) → Lawful (tables 0 a b c)
unfolding smallest
empty_lawful a b c = lawful_from_none (tables 0 a b c) (omega arith) refl

-- and tables that keep the laws have no dart at fault
pub none_from_lawful : (m : Mesh) → Lawful m → fault_of m ≡ None
none_from_lawful m l =
    let a : smallest m.n (outside m) ≡ None = none_from (outside m) m.n (λ h b. rw (lt-ltb (m.next h) m.n (l.next_below h b), lt-ltb (m.prev h) m.n (l.prev_below h b), lt-ltb (m.twin h) m.n (l.twin_below h b)) refl) in
    let b : smallest m.n (torn m) ≡ None = none_from (torn m) m.n (λ h b. rw (eq-eqb (m.prev (m.next h)) h (l.prev_next h b), eq-eqb (m.next (m.prev h)) h (l.next_prev h b), eq-eqb (m.twin (m.twin h)) h (l.twin_twin h b), ne_eqb (m.twin h) h (l.twin_other h b)) refl) in
    let c : smallest m.n (overlong m) ≡ None = none_from (overlong m) m.n (λ h b. rw (le-leb (length (ring m.next h)) 64 (l.faces_short h b), le-leb (length (ring (turn m) h)) 64 (l.vertices_short h b)) refl) in
    rw (a, b, c) refl

-- where a walk of at most 64 steps stops tells whether the ring is long
pub walk_more : (f : ℕ → ℕ) (h k c : ℕ) → c ≡ times k f h → (c ≡ h → ⊥) → ((i : ℕ) → 0 < i → i < k → times i f h ≡ h → ⊥)
    → (i : ℕ) → 0 < i → i < k + 1 → times i f h ≡ h → ⊥
walk_more f h k c e ne before i p l q =
    ⊎_elim (λ (s : i ≡ k). ne (e ∙ ap (λ j. times j f h) (sym s) ∙ q)) (λ s. before i p (omega arith) q) (cases_eq i k)

pub walk_ends : (f : ℕ → ℕ) (h k c : ℕ) → 1 ≤ k → k ≤ 64 → c ≡ times k f h → ((i : ℕ) → 0 < i → i < k → times i f h ≡ h → ⊥)
    → (64 ≤ k) ⊎ (c ≡ h) → not (eqb c h) ≡ long_ring f h
walk_ends f h k c s t e before w = ⊎_elim back away (cases_eq c h)
  where
    back : c ≡ h → not (eqb c h) ≡ long_ring f h
    back b = rw (eq-eqb c h b, le-leb (length (ring f h)) 64 (omega (arith, ring_bound f h k s (sym e ∙ b)))) refl

    away : (c ≡ h → ⊥) → not (eqb c h) ≡ long_ring f h
    away n =
        let far : 64 ≤ k = ⊎_elim (λ l. l) (λ b. absurd (n b)) w in
        let over : 64 < length (ring f h) =
        ⊎_elim (λ l. l)
        (λ l. absurd (walk_more f h k c e n before (length (ring f h)) (ring_pos f h) (omega arith) (ring_back f h l)))
        (cases_lt 64 (length (ring f h))) in
        rw (ne_eqb c h n, lt-leb (length (ring f h)) 64 over) refl
