-- A loop over the darts of a ring, or over those that lead: which dart a turn has, and that at the end all came.
use Rattle.std.proofs.Common.{◌≡◌, ℕ, ◌<◌, List, length, get_or, take, Some, None, Option, sym, ap, ◌∙◌, map-id}
use Rattle.std.specs.Iterator.{Yields, YieldsFirst}
use Rattle.std.proofs.lemmas.Iterator.{YieldsList}
use Rattle.std.proofs.lemmas.Iterator.Consumers.{YieldsList-from_first, YieldsList-so_far, YieldsList-turn, YieldsList-end}
use Rattle.mesh.specs.Count.{leaders_from}
use Rattle.skin.specs.Skins.{mesh}
use Rattle.skin.specs.Counts.{along}
use Rattle.skin.specs.Orbits.{to_come}
use Rattle.skin.specs.declared.skin.Skin.{Ghosts}
use Rattle.skin.specs.declared.orbit.Darts.{Darts}
use Rattle.skin.specs.declared.leaders.Leading.{Leading}

-- the darts that a walk has still to give
abbrev pub darts_left : {S : Type 0} (k : Ghosts S) → Darts S k → List ℕ
darts_left k w = to_come (k.n w.skin.now) (along w.ring (mesh k w.skin.now)) w.first w.last

-- the darts that lead and have not come
abbrev pub leaders_left : {S : Type 0} (k : Ghosts S) → Leading S → List ℕ
leaders_left k w = leaders_from (along w.ring (mesh k w.skin.now)) (k.n w.skin.now) w.from

-- xs came of all, and x comes
pub record Came (all xs : List ℕ) (x : ℕ) : Type 0 where
  pub so_far : xs ≡ take (length xs) all
  pub inside : length xs < length all
  pub here : x ≡ get_or all (length xs) x

-- what the loop begins with
module _ {W : Type 0} (rest : W → List ℕ) {start made : W} {all : List ℕ} (same : start ≡ made) (whole : rest made ≡ all) where
  road : YieldsList (YieldsFirst rest) (λ d. d) start all
  road = YieldsList-from_first (λ d. d) rest {s = start} all (ap rest same ∙ whole)

  -- what came so far, and what is left before and after a call of next
  module _ (xs : List ℕ) (t u : W) (so_far : Yields (YieldsFirst rest) start xs t) {o : Option ℕ} (one : YieldsFirst rest t o u) where
    pub came : {x : ℕ} → o ≡ Some x → Came all xs x
    came {x} e =
        let q = YieldsList-turn road xs t so_far o u x e one in
        record { so_far = sym (map-id xs) ∙ YieldsList-so_far road xs t so_far; inside = q.0; here = q.1 }

    pub ended : o ≡ None → xs ≡ all
    ended e = sym (map-id xs) ∙ (YieldsList-end road xs t so_far o u e one).0
