-- The skin of the tables that closing filled is the sheet's.
use Rattle.std.proofs.Common.{◌≡◌, ℕ, ◌<◌, List, get_or, Ok, Result, sym, refl, ap, ◌∙◌, subst}
use Rattle.mesh.specs.Mesh.{Same}
use Rattle.mesh.specs.Tables.{tables}
use Rattle.skin.specs.declared.table.TableSkin.{TableSkin}
use Rattle.skin.specs.Meaning.{meaning}
use Rattle.closing.specs.Sheet.{Sheet, darts, mesh}
use Rattle.closing.specs.Law.{Skins}
use Rattle.closing.specs.declared.fault.SkinFault.{SkinFault}
use Rattle.closing.specs.Causes.{places, Told}
use Rattle.closing.specs.Verdict.{front}
use Rattle.closing.specs.Closed.{Closed}
use Rattle.closing.specs.Held.{Held}
use Rattle.closing.proofs.Outcomes.{front_at}

module _ (s : Sheet) (a b c x y z : List ℕ) (n : ℕ) (k : Closed s a b c x y z (Ok n)) where
  all : n ≡ darts s
  all = k.told.0

  skins : Skins s (tables n x y z)
  skins = subst (λ (m : ℕ). Skins s (tables m x y z)) (sym all) (k.skin refl)

  holds : (f : ℕ → ℕ) (old new : List ℕ) → new ≡ front (darts s) f old → (h : ℕ) → h < n → get_or new h 0 ≡ f h
  holds f old new e h l = ap (λ (xs : List ℕ). get_or xs h 0) e ∙ front_at (darts s) f old h (subst (λ (m : ℕ). h < m) all l)

  same : Same (tables n x y z) (mesh s)
  same = record {
    n = all;
    next = holds (mesh s).next a x k.next;
    prev = holds (mesh s).prev b y k.prev;
    twin = holds (mesh s).twin c z k.twin;
  }

  pub taken : (t : TableSkin) → meaning t ≡ tables n x y z → Held s (places s a b c) (Ok t)
  taken t e =
      let sized : ◌≡◌ {A = Result ℕ SkinFault} (Ok (meaning t).n) (Ok n) = ap (λ m. Ok m.n) e in
      record {
        answer = sized ∙ k.answer;
        told = subst (Told s (places s a b c)) (sym sized) k.told;
        same = λ u q. let same_one : u ≡ t = cc in subst (λ v. Same (meaning v) (mesh s)) (sym same_one) (subst (λ m. Same m (mesh s)) (sym e) same);
        skin = λ u q. let same_one : u ≡ t = cc in subst (λ v. Skins s (meaning v)) (sym same_one) (subst (Skins s) (sym e) skins);
      }
