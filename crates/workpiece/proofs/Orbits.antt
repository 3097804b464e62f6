-- A loop over the darts of a ring: which dart a turn has, and that at the end it has had all.
use Rattle.std.proofs.Common.{◌≡◌, ℕ, ◌<◌, List, [], length, Some, None, Option, sym, ap, ◌∙◌, subst}
use Rattle.std.specs.Iterator.{Yields, YieldsFirst}
use Rattle.std.proofs.lemmas.Bool.{cond_below}
use Rattle.std.proofs.lemmas.Iterator.{YieldsList}
use Rattle.std.proofs.lemmas.Iterator.Consumers.{YieldsList-from_first, YieldsList-turn, YieldsList-end}
use Rattle.std.proofs.lemmas.List.{get_or_default}
use Rattle.mesh.specs.Mesh.{times, ring}
use Rattle.mesh.proofs.Rings.{ring_at, times_keeps}
use Rattle.mesh.proofs.Rounds.{Rounds, period}
use Rattle.skin.specs.Skins.{mesh}
use Rattle.skin.specs.Counts.{along}
use Rattle.skin.specs.Orbits.{to_come, ring_of}
use Rattle.skin.specs.declared.skin.Skin.{Ghosts}
use Rattle.skin.specs.declared.orbit.Darts.{Darts}

-- the darts that a walk has still to give
abbrev pub rest : {S : Type 0} (k : Ghosts S) → Darts S k → List ℕ
rest k w = to_come (k.n w.skin.now) (along w.ring (mesh k w.skin.now)) w.first w.last

-- the walk that the loop begins with, what it has given so far, and what it is before and after a call of next
module _ {S : Type 0} (k : Ghosts S) {n h : ℕ} {f : ℕ → ℕ} (r : Rounds n f) (b : h < n) {start made : Darts S k} (same : start ≡ made)
    (whole : rest k made ≡ ring_of n f h)
  where
    all : YieldsList (YieldsFirst (rest k)) (λ d. d) start (ring f h)
    all = YieldsList-from_first (λ d. d) (rest k) {s = start} (ring f h) (ap (rest k) same ∙ whole ∙ sym (cond_below h n (ring f h) [] b))

    module _ (ds : List ℕ) (t u : Darts S k) (so_far : Yields (YieldsFirst (rest k)) start ds t) {o : Option ℕ} (one : YieldsFirst (rest k) t o u) where
      pub dart_turn : {d : ℕ} → o ≡ Some d → (length ds < period f h) × (d ≡ times (length ds) f h) × (d < n)
      dart_turn {d} e =
          let q = YieldsList-turn all ds t so_far o u d e one in
          let is : d ≡ times (length ds) f h = q.1 ∙ get_or_default (ring f h) (length ds) d 0 q.0 ∙ ring_at f h (length ds) q.0 in
          (q.0, is, subst (λ x. x < n) (sym is) (times_keeps n f r.below (length ds) h b))

      pub dart_end : o ≡ None → length ds ≡ period f h
      dart_end e = (YieldsList-end all ds t so_far o u e one).1
