-- A split under way: the places from 4h on are done.
use Rattle.std.proofs.Common.{◌≡◌, ℕ, ◌+◌, ◌*◌, ◌/◌, ◌<◌, ◌≤◌, cond, eqb, ◌⊎◌, List, [], map, length, get_or, set, sym, refl, ap, ◌∙◌, inl, inr, arith}
use Rattle.std.proofs.lemmas.List.{length-set, length-map}
use Rattle.std.proofs.lemmas.Bool.{cond_both, cond-true, cond-false, eqb-false, eq-eqb, ne_eqb, cases_eq}
use Rattle.point.specs.Points.{Point}
use Rattle.workpiece.proofs.Stores.{set_point}

pub four_set : {X : Type 0} (point : X → Point) (t : List X) (h x : ℕ) (r : X) → 4 * h + 3 < length t
    → get_or (map point (set (set (set (set t (4 * h) r) (4 * h + 1) r) (4 * h + 2) r) (4 * h + 3) r)) x [] ≡ cond (eqb (x / 4) h) (point r) (get_or (map point t) x [])
four_set point t h x r l =
    let l₁ = length-set t (4 * h) r in
    let l₂ = length-set (set t (4 * h) r) (4 * h + 1) r in
    let l₃ = length-set (set (set t (4 * h) r) (4 * h + 1) r) (4 * h + 2) r in
    set_point point (set (set (set t (4 * h) r) (4 * h + 1) r) (4 * h + 2) r) (4 * h + 3) x r (omega arith)
    ∙ ap (cond (eqb x (4 * h + 3)) (point r)) (set_point point (set (set t (4 * h) r) (4 * h + 1) r) (4 * h + 2) x r (omega arith)
    ∙ ap (cond (eqb x (4 * h + 2)) (point r)) (set_point point (set t (4 * h) r) (4 * h + 1) x r (omega arith)
    ∙ ap (cond (eqb x (4 * h + 1)) (point r)) (set_point point t (4 * h) x r (omega arith))))
    ∙ go (cases_eq (x / 4) h)
  where
    P : Point
    P = point r

    B : Point
    B = get_or (map point t) x []

    go : ((x / 4) ≡ h) ⊎ ((x / 4) ≡ h → ⊥)
        → cond (eqb x (4 * h + 3)) (point r) (cond (eqb x (4 * h + 2)) (point r) (cond (eqb x (4 * h + 1)) (point r) (cond (eqb x (4 * h)) (point r) (get_or (map point t) x [])))) ≡ cond (eqb (x / 4) h) (point r) (get_or (map point t) x [])
    go (inl e) =
        cond_both (eqb x (4 * h + 3)) (point r) _ (λ v. v ≡ point r) (λ _. refl) (λ n₃.
        cond_both (eqb x (4 * h + 2)) (point r) _ (λ v. v ≡ point r) (λ _. refl) (λ n₂.
        cond_both (eqb x (4 * h + 1)) (point r) _ (λ v. v ≡ point r) (λ _. refl) (λ n₁.
        cond_both (eqb x (4 * h)) (point r) _ (λ v. v ≡ point r) (λ _. refl) (λ n₀.
        absurd (omega (arith, eqb-false x (4 * h + 3) n₃, eqb-false x (4 * h + 2) n₂, eqb-false x (4 * h + 1) n₁, eqb-false x (4 * h) n₀))))))
        ∙ sym (cond-true (eqb (x / 4) h) _ _ (eq-eqb (x / 4) h e))
    go (inr e) =
        cond-false (eqb x (4 * h + 3)) _ _ (ne_eqb x (4 * h + 3) (λ q. e (omega arith)))
        ∙ cond-false (eqb x (4 * h + 2)) _ _ (ne_eqb x (4 * h + 2) (λ q. e (omega arith)))
        ∙ cond-false (eqb x (4 * h + 1)) _ _ (ne_eqb x (4 * h + 1) (λ q. e (omega arith)))
        ∙ cond-false (eqb x (4 * h)) _ _ (ne_eqb x (4 * h) (λ q. e (omega arith)))
        ∙ sym (cond-false (eqb (x / 4) h) _ _ (ne_eqb (x / 4) h e))

-- the places from 4h to 4n have been written, and no other
pub record Down (n : ℕ) (before : List Point) (h : ℕ) (cur : List Point) : Type 0 where
  pub long : length cur ≡ length before
  pub here : (x : ℕ) → 4 * h ≤ x → x < 4 * n → get_or cur x [] ≡ get_or before (x / 4) []
  pub else_where : (x : ℕ) → (x < 4 * h) ⊎ (4 * n ≤ x) → get_or cur x [] ≡ get_or before x []

pub down_more : {X : Type 0} (point : X → Point) (n : ℕ) (before : List Point) (t : List X) (h : ℕ) (r : X)
    → h < n → 4 * n ≤ length t → r ≡ get_or t h r → point r ≡ get_or (map point t) h [] → Down n before (h + 1) (map point t)
    → Down n before h (map point (set (set (set (set t (4 * h) r) (4 * h + 1) r) (4 * h + 2) r) (4 * h + 3) r))
down_more point n before t h r l fits is read d = record {
  long = simp (length-map, length-set) (sym (length-map t point) ∙ d.long);
  here = λ x low high. four_set point t h x r (omega arith) ∙ here x low high (cases_eq (x / 4) h);
  else_where = λ x w. four_set point t h x r (omega arith)
      ∙ cond-false (eqb (x / 4) h) _ _ (ne_eqb (x / 4) h (λ e. apart x w e))
      ∙ d.else_where x (wider x w);
}
  where
    apart : (x : ℕ) → (x < 4 * h) ⊎ (4 * n ≤ x) → x / 4 ≡ h → ⊥
    apart x (inl w) e = omega arith
    apart x (inr w) e = omega arith

    wider : (x : ℕ) → (x < 4 * h) ⊎ (4 * n ≤ x) → (x < 4 * (h + 1)) ⊎ (4 * n ≤ x)
    wider x (inl w) = inl (omega arith)
    wider x (inr w) = inr w

    here : (x : ℕ) → 4 * h ≤ x → x < 4 * n → ((x / 4) ≡ h) ⊎ ((x / 4) ≡ h → ⊥) → cond (eqb (x / 4) h) (point r) (get_or (map point t) x []) ≡ get_or before (x / 4) []
    here x low high (inl e) =
        cond-true (eqb (x / 4) h) _ _ (eq-eqb (x / 4) h e) ∙ read ∙ d.else_where h (inl (omega arith)) ∙ ap (λ y. get_or before y []) (sym e)
    here x low high (inr e) = cond-false (eqb (x / 4) h) _ _ (ne_eqb (x / 4) h e) ∙ d.here x (omega arith) high
