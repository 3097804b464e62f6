-- One step of a walk along a ring.
use Rattle.std.proofs.Common.{◌≡◌, ℕ, ◌<◌, ◌≤◌, cond, eqb, ltb, length, Some, None, Option, refl, ap, ⊎_elim, arith}
use Rattle.std.proofs.lemmas.Bool.{cases_eq, cases_lt, eq-eqb, ne_eqb, lt-ltb, le-ltb}
use Rattle.mesh.specs.Mesh.{walk}
use Rattle.mesh.proofs.Rings.{walk_end, walk_on, ring_is}
use Rattle.mesh.proofs.Rounds.{Rounds}
use Rattle.skin.specs.Orbits.{First}

module _ {n : ℕ} {f : ℕ → ℕ} (r : Rounds n f) where
  -- after c comes the dart that follows, but for h
  pub stepped : (h c : ℕ) → (c < n) × (length (walk 64 f h (f c)) < 64) → (o : Option ℕ) → o ≡ cond (eqb (f c) h) None (Some (f c)) →
      First n f h (Some c) o
  stepped h c b o =
      ⊎_elim
      (λ (e : f c ≡ h). rw (eq-eqb (f c) h e) (λ (q : o ≡ None). rw q (walk_end 63 f h (f c) e)))
      (λ (ne : f c ≡ h → ⊥). rw (ne_eqb (f c) h ne)
      (λ (q : o ≡ Some (f c)).
      let on = walk_on 63 f h (f c) b.1 ne in
      rw q ((λ d e. let s : d ≡ f c = cc in rw s (r.below c b.0, on.1)), on.0)))
      (cases_eq (f c) h)

  -- a walk begins at h, if h is a dart
  pub started : (h : ℕ) (o : Option ℕ) → o ≡ cond (ltb h n) (Some h) None → First n f h None o
  started h o =
      ⊎_elim
      (λ (b : h < n). rw (lt-ltb h n b)
      (λ (q : o ≡ Some h).
      let back : length (walk 64 f h (f h)) < 64 = omega (arith, r.short h b, ap length (ring_is f h)) in
      rw q ((λ d e. let s : d ≡ h = cc in rw s (b, back)), ring_is f h)))
      (λ (b : n ≤ h). rw (le-ltb h n b) (λ (q : o ≡ None). rw q refl))
      (cases_lt h n)
