-- Two meshes that mean the same: as many darts, and the same said of each.
use Rattle.std.proofs.Common.{◌≡◌, ℕ, ◌+◌, ◌*◌, ◌<◌, ◌≤◌, Bool, true, false, cond, not, leb, length, sym, refl, ap, ◌∙◌, subst}
use Rattle.mesh.specs.Mesh.{Mesh, Lawful, Same, ring, turn, dual, quad, flipped}
use Rattle.mesh.specs.Rungs.{rung}
use Rattle.mesh.proofs.Rings.{ring_agree}
use Rattle.mesh.proofs.QuadLaws.{four, into, twin0, twin1, twin2, twin3}
use Rattle.mesh.proofs.DualLaws.{turn_below, dual_lawful}

pub same_refl : (m : Mesh) → Same m m
same_refl m = record { n = refl; next = λ h b. refl; prev = λ h b. refl; twin = λ h b. refl }

-- the Dual of a Dual is the mesh itself
pub dual_dual : (m : Mesh) → Lawful m → Same (dual (dual m)) m
dual_dual m l =
    record {
      n = refl;
      next = λ h b. ap m.next (l.twin_twin h b);
      prev = λ h b. l.twin_twin (m.prev h) (l.prev_below h b);
      twin = λ h b. refl;
    }

module _ (a b : Mesh) (l : Lawful a) (s : Same a b) where
  under : (P : ℕ → Type 0) → ((h : ℕ) → h < a.n → P h) → (h : ℕ) → h < b.n → P h
  under P f h k = f h (subst (λ (x : ℕ). h < x) (sym s.n) k)

  below : (f : ℕ → ℕ) (x h : ℕ) → x ≡ f h → x < a.n → f h < b.n
  below f x h e k = subst (λ (y : ℕ). f h < y) s.n (subst (λ (y : ℕ). y < a.n) e k)

  turned : (h : ℕ) → h < a.n → turn b h ≡ turn a h
  turned h k = sym (s.next (a.twin h) (l.twin_below h k) ∙ ap b.next (s.twin h k))

  -- what means the same as a lawful mesh is lawful
  pub same_lawful : Lawful b
  same_lawful =
      record {
        few = subst (λ (x : ℕ). x ≤ 1048576) s.n l.few;
        next_below = under _ (λ h k. below b.next (a.next h) h (s.next h k) (l.next_below h k));
        prev_below = under _ (λ h k. below b.prev (a.prev h) h (s.prev h k) (l.prev_below h k));
        twin_below = under _ (λ h k. below b.twin (a.twin h) h (s.twin h k) (l.twin_below h k));
        next_prev = under _ (λ h k. ap b.next (sym (s.prev h k)) ∙ sym (s.next (a.prev h) (l.prev_below h k)) ∙ l.next_prev h k);
        prev_next = under _ (λ h k. ap b.prev (sym (s.next h k)) ∙ sym (s.prev (a.next h) (l.next_below h k)) ∙ l.prev_next h k);
        twin_twin = under _ (λ h k. ap b.twin (sym (s.twin h k)) ∙ sym (s.twin (a.twin h) (l.twin_below h k)) ∙ l.twin_twin h k);
        twin_other = under _ (λ h k e. l.twin_other h k (s.twin h k ∙ e));
        faces_short = under _ (λ h k. subst (λ r. length r ≤ 64) (sym (ring_agree a.n a.next b.next l.next_below (λ x c. sym (s.next x c)) h k)) (l.faces_short h k));
        vertices_short = under _ (λ h k. subst (λ r. length r ≤ 64) (sym (ring_agree a.n (turn a) (turn b) (λ x c. l.next_below (a.twin x) (l.twin_below x c)) turned h k)) (l.vertices_short h k));
      }

module _ (a b : Mesh) (l : Lawful a) (s : Same a b) where
  pub same_turn : (h : ℕ) → h < a.n → turn a h ≡ turn b h
  same_turn h k = s.next (a.twin h) (l.twin_below h k) ∙ ap b.next (s.twin h k)

  same_unturn : (h : ℕ) → h < a.n → a.twin (a.prev h) ≡ b.twin (b.prev h)
  same_unturn h k = s.twin (a.prev h) (l.prev_below h k) ∙ ap b.twin (s.prev h k)

  pub same_dual : Same (dual a) (dual b)
  same_dual = record { n = s.n; next = same_turn; prev = same_unturn; twin = s.twin }

  pub same_quad : Same (quad a) (quad b)
  same_quad =
      record {
        n = ap (λ x. cond (leb x 262144) (4 * x) 0) s.n;
        next = λ d k. refl;
        prev = λ d k. refl;
        twin = λ d k.
            four a.n d (λ d. (quad a).twin d ≡ (quad b).twin d) (into a l d k)
            (λ h c. twin0 a h ∙ ap (λ x. 4 * x + 3) (same_turn h c) ∙ sym (twin0 b h))
            (λ h c. twin1 a h ∙ ap (λ x. 4 * x + 2) (s.next h c) ∙ sym (twin1 b h))
            (λ h c. twin2 a h ∙ ap (λ x. 4 * x + 1) (s.prev h c) ∙ sym (twin2 b h))
            (λ h c. twin3 a h ∙ ap (λ x. 4 * x) (same_unturn h c) ∙ sym (twin3 b h));
      }

  -- the same rings
  pub same_face : (h : ℕ) → h < a.n → ring b.next h ≡ ring a.next h
  same_face = ring_agree a.n a.next b.next l.next_below (λ x k. sym (s.next x k))

  pub same_vertex : (h : ℕ) → h < a.n → ring (turn b) h ≡ ring (turn a) h
  same_vertex = ring_agree a.n (turn a) (turn b) (turn_below a l) (λ x k. sym (same_turn x k))

pub same_rung : (b : Bool) (m k : Mesh) → Lawful m → Same m k → Same (rung b m) (rung b k)
same_rung true m k l s = same_quad (dual m) (dual k) (dual_lawful m l) (same_dual m k l s)
same_rung false m k l s = same_quad m k l s

pub same_trans : {a b c : Mesh} → Same a b → Same b c → Same a c
same_trans p q =
    record {
      n = p.n ∙ q.n;
      next = λ h l. p.next h l ∙ q.next h (subst (λ n. h < n) p.n l);
      prev = λ h l. p.prev h l ∙ q.prev h (subst (λ n. h < n) p.n l);
      twin = λ h l. p.twin h l ∙ q.twin h (subst (λ n. h < n) p.n l);
    }

pub same_sym : {a b : Mesh} → Same a b → Same b a
same_sym {a} {b} s =
    let to : (h : ℕ) → h < b.n → h < a.n = λ h l. subst (λ n. h < n) (sym s.n) l in
    record {
      n = sym s.n;
      next = λ h l. sym (s.next h (to h l));
      prev = λ h l. sym (s.prev h (to h l));
      twin = λ h l. sym (s.twin h (to h l));
    }

pub flipped_lawful : (b : Bool) (m : Mesh) → Lawful m → Lawful (flipped b m)
flipped_lawful true m l = dual_lawful m l
flipped_lawful false m l = l

-- the other flag is a Dual more
pub flipped_not : (b : Bool) (m : Mesh) → Lawful m → Same (flipped (not b) m) (dual (flipped b m))
flipped_not false m l = same_refl (dual m)
flipped_not true m l = same_sym (dual_dual m l)
