-- Two meshes that say the same of each dart, looked through dart by dart.
use Rattle.std.proofs.Common.{◌≡◌, ℕ, ◌<◌, Bool, true, false, length, MatchBool, Decides, refl, ◌∙◌, subst, zero-add, arith}
use Rattle.std.proofs.lemmas.Bool.{false≢true}
use Rattle.std.proofs.lemmas.List.FromFn.{length-range_with_len, get_or-range_with_len}
use Rattle.std.specs.List.{AllWithin, HoldsAt, range_with_len}
use Rattle.mesh.specs.Mesh.{Mesh, Same}
use Rattle.skin.specs.Skins.{Told}

module _ (a b : Mesh) where
  abbrev pub Untold : ℕ → Type 0
  Untold h = Told a b h → ⊥

  pub alike_from : (r : Bool) → a.n ≡ b.n →
      MatchBool r (AllWithin (Told a b) (range_with_len 0 a.n) 0 (length (range_with_len 0 a.n)))
      ((k : ℕ) × (k < length (range_with_len 0 a.n)) × HoldsAt Untold (range_with_len 0 a.n) k) → Decides r (Same a b)
  alike_from true e all = ((λ _. record { n = e; next = λ h l. (told h l).next; prev = λ h l. (told h l).prev; twin = λ h l. (told h l).twin }), λ _. refl)
    where
      told : (h : ℕ) → h < a.n → Told a b h
      told h l = subst (Told a b) (get_or-range_with_len 0 a.n h 0 l ∙ zero-add h) (all h 0 (omega arith) (omega (arith, length-range_with_len 0 a.n)))
  alike_from false e some = ((λ t. absurd (false≢true t)), λ s. absurd (untold (record { next = s.next k below; prev = s.prev k below; twin = s.twin k below })))
    where
      k : ℕ
      k = some.0

      below : k < a.n
      below = omega (arith, some.1, length-range_with_len 0 a.n)

      untold : Told a b k → ⊥
      untold = subst Untold (get_or-range_with_len 0 a.n k 0 below ∙ zero-add k) (some.2 0)
