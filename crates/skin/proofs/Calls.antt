-- What an answer of a call tells of its dart.
use Rattle.std.proofs.Common.{◌≡◌, ℕ, ◌<◌, Bool, ◌&&◌, ltb, Some, None, Option, sym, refl, ap, ◌∙◌, arith}
use Rattle.std.proofs.lemmas.Bool.{ltb-true, lt-ltb, cond_both, cond_below}
use Rattle.mesh.specs.Mesh.{Mesh, Lawful, within}

-- a call that answers y was asked of a dart below n, and y is what the mesh says
pub answered : (n h x y : ℕ) → Some y ≡ within n h x → (h < n) × (y ≡ x)
answered n h x y =
    cond_both (ltb h n) (Some x) None (λ o. Some y ≡ o → (h < n) × (y ≡ x))
    (λ t e. (ltb-true h n t, cc))
    (λ _ e. absurd (let z : ◌≡◌ {A = ℕ} 0 1 = cc in omega arith))

module _ (m : Mesh) (l : Lawful m) where
  -- what a call answers that leads from darts to darts
  pub dart_answer : (f : ℕ → ℕ) → ((h : ℕ) → h < m.n → f h < m.n) → (h y : ℕ) → Some y ≡ within m.n h (f h) → y < 1048576
  dart_answer f below h y e =
      let a = answered m.n h (f h) y e in omega (arith, a.1, l.few, below h a.0)

-- a dart below n is answered
pub answers : (n h x y : ℕ) → h < n → y ≡ x → Some y ≡ within n h x
answers n h x y b e = ap Some e ∙ cond_below h n (Some x) None b

pub never_none : (n h x : ℕ) → h < n → None ≡ within n h x → ⊥
never_none n h x b e =
    let s : Some x ≡ within n h x = answers n h x x b refl in
    let z : ◌≡◌ {A = ℕ} 0 1 = cc in omega arith

-- a step that was answered by y, as unwrap tells it
pub unwrapped : {o : Option ℕ} (n h x y : ℕ) → o ≡ within n h x → o ≡ Some y → (h < n) × (y ≡ x)
unwrapped n h x y e q = answered n h x y (sym q ∙ e)

-- a test that only darts pass, asked of a dart
pub of_dart : (n h : ℕ) (b : Bool) → h < n → (ltb h n && b) ≡ b
of_dart n h b l = ap (λ x. x && b) (lt-ltb h n l)
