-- Writing round a ring.
use Rattle.std.proofs.Common.{◌≡◌, ℕ, ◌+◌, ◌<◌, Bool, true, false, cond, ◌||◌, eqb, ◌⊎◌, List, [], map, length, get_or, set, sym, refl, ap, ◌∙◌, inl, inr, add-one}
use Rattle.std.proofs.lemmas.List.{get_or-set_same, get_or-set_other, map-set, length-map}
use Rattle.std.proofs.lemmas.Bool.{cases_eq, eq-eqb, ne_eqb}
use Rattle.mesh.specs.Mesh.{times, among}
use Rattle.mesh.proofs.Rings.{orbit}
use Rattle.mesh.proofs.Rounds.{among_snoc}
use Rattle.point.specs.Points.{Point}

-- ---- one place written
pub set_point : {X : Type 0} (point : X → Point) (ts : List X) (c x : ℕ) (r : X) → c < length ts
    → get_or (map point (set ts c r)) x [] ≡ cond (eqb x c) (point r) (get_or (map point ts) x [])
set_point point ts c x r l = ap (λ xs. get_or xs x []) (map-set point ts c r) ∙ go (cases_eq x c)
  where
    go : (x ≡ c) ⊎ (x ≡ c → ⊥) → get_or (set (map point ts) c (point r)) x [] ≡ cond (eqb x c) (point r) (get_or (map point ts) x [])
    go (inl e) =
        ap (λ y. get_or (set (map point ts) c (point r)) y []) e ∙ get_or-set_same (map point ts) c (point r) [] (rw (length-map ts point) l)
        ∙ ap (λ b. cond b (point r) (get_or (map point ts) x [])) (sym (eq-eqb x c e))
    go (inr e) = get_or-set_other (map point ts) c x (point r) [] e ∙ ap (λ b. cond b (point r) (get_or (map point ts) x [])) (sym (ne_eqb x c e))

-- the next place of a walk written
pub written_more : (x c k : ℕ) (f : ℕ → ℕ) (h : ℕ) (p before now after : Point) → c ≡ times k f h
    → now ≡ cond (among x (orbit k f h)) p before → after ≡ cond (eqb x c) p now → after ≡ cond (among x (orbit (k + 1) f h)) p before
written_more x c k f h p before now after e inv w =
    w ∙ ap (cond (eqb x c) p) inv ∙ both (eqb x c) (among x (orbit k f h))
    ∙ ap (λ b. cond b p before) (ap (λ y. among x (orbit k f h) || eqb x y) e ∙ sym (among_snoc x k f h) ∙ ap (λ j. among x (orbit j f h)) (sym (add-one k)))
  where
    both : (a b : Bool) → cond a p (cond b p before) ≡ cond (b || a) p before
    both true true = refl
    both true false = refl
    both false true = refl
    both false false = refl
