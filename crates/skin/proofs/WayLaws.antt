-- A way at the top of a ladder is a way at its foot.
use Rattle.std.proofs.Common.{◌≡◌, ℕ, zero, suc, ◌+◌, ◌-◌, ◌*◌, ◌/◌, ◌%◌, ◌<◌, ◌≤◌, Bool, true, false, cond, ◌≢◌, List, length, get_or, set, sym, refl, ap, ◌∙◌, subst, add-zero, arith, get_or-set_other, get_or-set_same}
use Rattle.std.proofs.lemmas.Bool.{false≢true}
use Rattle.mesh.specs.Mesh.{Mesh, Lawful, turn, dual, quad}
use Rattle.mesh.specs.Rungs.{rung, level}
use Rattle.skin.specs.Ways.{act, way_across, way_below, way_digit, way_stays, way_under}
use Rattle.skin.specs.declared.ladder.Way.{Way}
use Rattle.skin.specs.declared.ladder.Way.TheVariants.{Stay, Next, Prev, Twin, Turn, Unturn}
use Rattle.mesh.proofs.DualLaws.{turn_below}
use Rattle.mesh.proofs.QuadLaws.{next0, next1, next2, next3, prev0, prev1, prev2, prev3, twin0, twin1, twin2, twin3, turn0, turn1, turn2, turn3}
use Rattle.mesh.proofs.RungLaws.{rung_below, level_zero, level_suc, level_lawful}

-- a way at a Quad
pub act_quad : (m : Mesh) (h : ℕ) (w : Way) (j : ℕ) → j < 4 → act (quad m) w (4 * h + j) ≡ 4 * act m (way_below w j) h + way_digit w j
act_quad m h Stay zero b = refl
act_quad m h Stay (suc zero) b = refl
act_quad m h Stay (suc (suc zero)) b = refl
act_quad m h Stay (suc (suc (suc zero))) b = refl
act_quad m h Stay (suc (suc (suc (suc j)))) b = absurd (omega arith)
act_quad m h Next zero b = rw (add-zero (4 * h)) (next0 m h)
act_quad m h Next (suc zero) b = next1 m h
act_quad m h Next (suc (suc zero)) b = next2 m h
act_quad m h Next (suc (suc (suc zero))) b = next3 m h ∙ sym (add-zero (4 * h))
act_quad m h Next (suc (suc (suc (suc j)))) b = absurd (omega arith)
act_quad m h Prev zero b = ap (quad m).prev (add-zero (4 * h)) ∙ prev0 m h
act_quad m h Prev (suc zero) b = prev1 m h ∙ sym (add-zero (4 * h))
act_quad m h Prev (suc (suc zero)) b = prev2 m h
act_quad m h Prev (suc (suc (suc zero))) b = prev3 m h
act_quad m h Prev (suc (suc (suc (suc j)))) b = absurd (omega arith)
act_quad m h Twin zero b = ap (quad m).twin (add-zero (4 * h)) ∙ twin0 m h
act_quad m h Twin (suc zero) b = twin1 m h
act_quad m h Twin (suc (suc zero)) b = twin2 m h
act_quad m h Twin (suc (suc (suc zero))) b = twin3 m h ∙ sym (add-zero _)
act_quad m h Twin (suc (suc (suc (suc j)))) b = absurd (omega arith)
act_quad m h Turn zero b = ap (turn (quad m)) (add-zero (4 * h)) ∙ turn0 m h ∙ sym (add-zero _)
act_quad m h Turn (suc zero) b = turn1 m h
act_quad m h Turn (suc (suc zero)) b = turn2 m h
act_quad m h Turn (suc (suc (suc zero))) b = turn3 m h
act_quad m h Turn (suc (suc (suc (suc j)))) b = absurd (omega arith)
act_quad m h Unturn zero b = ap (λ x. (quad m).twin ((quad m).prev x)) (add-zero (4 * h)) ∙ ap (quad m).twin (prev0 m h) ∙ twin3 m h ∙ sym (add-zero _)
act_quad m h Unturn (suc zero) b = ap (quad m).twin (prev1 m h) ∙ twin0 m h
act_quad m h Unturn (suc (suc zero)) b = ap (quad m).twin (prev2 m h) ∙ twin1 m h
act_quad m h Unturn (suc (suc (suc zero))) b = ap (quad m).twin (prev3 m h) ∙ twin2 m h
act_quad m h Unturn (suc (suc (suc (suc j)))) b = absurd (omega arith)

-- a way at a Dual
pub act_dual : (m : Mesh) → Lawful m → (w : Way) (h : ℕ) → h < m.n → act (dual m) w h ≡ act m (way_across w) h
act_dual m l Stay h b = refl
act_dual m l Next h b = refl
act_dual m l Prev h b = refl
act_dual m l Twin h b = refl
act_dual m l Turn h b = ap m.next (l.twin_twin h b)
act_dual m l Unturn h b = l.twin_twin (m.prev h) (l.prev_below h b)

-- a way leads to a dart
pub act_below : (m : Mesh) → Lawful m → (w : Way) (h : ℕ) → h < m.n → act m w h < m.n
act_below m l Stay h b = b
act_below m l Next h b = l.next_below h b
act_below m l Prev h b = l.prev_below h b
act_below m l Twin h b = l.twin_below h b
act_below m l Turn h b = turn_below m l h b
act_below m l Unturn h b = l.twin_below (m.prev h) (l.prev_below h b)

-- a way at a rung
pub act_rung : (b : Bool) (m : Mesh) → Lawful m → (w : Way) (d : ℕ) → d < (rung b m).n →
    act (rung b m) w d ≡ 4 * act m (cond b (way_across (way_below w (d % 4))) (way_below w (d % 4))) (d / 4) + way_digit w (d % 4)
act_rung b m l w d k =
    ap (act (rung b m) w) (let e : d ≡ 4 * (d / 4) + d % 4 = omega arith in e)
    ∙ act_quad (cond b (dual m) m) (d / 4) w (d % 4) (omega arith)
    ∙ ap (λ x. 4 * x + way_digit w (d % 4)) (lower b (way_below w (d % 4)) (rung_below b m d k))
  where
    lower : (b : Bool) (v : Way) → d / 4 < m.n → act (cond b (dual m) m) v (d / 4) ≡ act m (cond b (way_across v) v) (d / 4)
    lower true v c = act_dual m l v (d / 4) c
    lower false v c = refl

-- the way up: k levels from level i on, with a digit for each
unfoldable pub climb : List ℕ → ℕ → ℕ → ℕ → ℕ
climb ds i zero x = x
climb ds i (suc k) x = climb ds (suc i) k (4 * x + get_or ds i 0)

pub climb_none : (ds : List ℕ) (i x : ℕ) → climb ds i 0 x ≡ x
unfolding climb
climb_none ds i x = refl

pub climb_suc : (ds : List ℕ) (i k x : ℕ) → climb ds i (suc k) x ≡ climb ds (suc i) k (4 * x + get_or ds i 0)
unfolding climb
climb_suc ds i k x = refl

pub climb_le : (ds : List ℕ) (i k x : ℕ) → x ≤ climb ds i k x
unfolding climb
climb_le ds i zero x = omega arith
climb_le ds i (suc k) x = omega (arith, climb_le ds (suc i) k (4 * x + get_or ds i 0))

pub climb_set : (ds : List ℕ) (p v i k x : ℕ) → p < i → climb (set ds p v) i k x ≡ climb ds i k x
unfolding climb
climb_set ds p v i zero x lt = refl
climb_set ds p v i (suc k) x lt =
    let ne : i ≢ p = omega arith in
    ap (λ z. climb (set ds p v) (suc i) k (4 * x + z)) (rw get_or-set_other) ∙ climb_set ds p v (suc i) k (4 * x + get_or ds i 0) (omega arith)

-- the digit of level i, written on the way down, is read on the way up
pub climb_down : (ds : List ℕ) (i k v x : ℕ) → i < length ds → climb (set ds i v) i (suc k) x ≡ climb ds (suc i) k (4 * x + v)
climb_down ds i k v x lt =
    climb_suc (set ds i v) i k x ∙ ap (λ z. climb (set ds i v) (suc i) k (4 * x + z)) (get_or-set_same ds i v 0 lt)
    ∙ climb_set ds i v (suc i) k (4 * x + v) (omega arith)

pub down_step : (m : Mesh) → Lawful m → (bits : List Bool) (ds : List ℕ) (i c : ℕ) (w : Way) (d : ℕ) →
    i < c → i < length ds → d < (level (suc i) bits m).n →
    climb (set ds i (way_digit w (d % 4))) i (c - i) (act (level i bits m) (way_under (get_or bits i false) (way_below w (d % 4))) (d / 4))
    ≡ climb ds (suc i) (c - suc i) (act (level (suc i) bits m) w d)
down_step m l bits ds i c w d ic il b =
    let v = way_digit w (d % 4) in
    let x = act (level i bits m) (way_under (get_or bits i false) (way_below w (d % 4))) (d / 4) in
    ap (λ z. climb (set ds i v) i z x) (let e : c - i ≡ suc (c - suc i) = omega arith in e)
    ∙ climb_down ds i (c - suc i) v x il
    ∙ ap (climb ds (suc i) (c - suc i))
    (sym (act_rung (get_or bits i false) (level i bits m) (level_lawful i bits m l) w d (rw level_suc at b))
    ∙ ap (λ M. act M w d) (sym (level_suc i bits m)))

-- where the way down ends: at the base, with its answer, or where the way stays
pub at_foot : (m : Mesh) (bits : List Bool) (i : ℕ) (w : Way) (d x : ℕ) → i ≡ 0 → x ≡ act m w d → x ≡ act (level i bits m) w d
at_foot m bits i w d x z q = q ∙ ap (λ M. act M w d) (sym (ap (λ k. level k bits m) z ∙ level_zero bits m))

pub at_rest : (m : Mesh) (w : Way) (d : ℕ) → way_stays w ≡ true → d ≡ act m w d
at_rest m Stay d e = refl
at_rest m Next d e = absurd (false≢true e)
at_rest m Prev d e = absurd (false≢true e)
at_rest m Twin d e = absurd (false≢true e)
at_rest m Turn d e = absurd (false≢true e)
at_rest m Unturn d e = absurd (false≢true e)

-- one step up
pub up_step : (ds : List ℕ) (k c x : ℕ) → k < c → climb ds k (c - k) x ≡ climb ds (k + 1) (c - (k + 1)) (4 * x + get_or ds k 0)
up_step ds k c x lt =
    ap (λ z. climb ds k z x) (let e : c - k ≡ suc (c - (k + 1)) = omega arith in e)
    ∙ climb_suc ds k (c - (k + 1)) x
    ∙ ap (λ z. climb ds z (c - (k + 1)) (4 * x + get_or ds k 0)) (let e : suc k ≡ k + 1 = omega arith in e)

-- what one step up has is no more than the whole way up has
pub up_bound : (ds : List ℕ) (k c x A : ℕ) → k < c → climb ds k (c - k) x ≡ A → 4 * x + get_or ds k 0 ≤ A
up_bound ds k c x A lt e =
    let q : climb ds (k + 1) (c - (k + 1)) (4 * x + get_or ds k 0) ≡ A = sym (up_step ds k c x lt) ∙ e in
    omega (arith, climb_le ds (k + 1) (c - (k + 1)) (4 * x + get_or ds k 0), q)

pub top : (ds : List ℕ) (k c x : ℕ) → c ≤ k → climb ds k (c - k) x ≡ x
top ds k c x le = ap (λ z. climb ds k z x) (let e : c - k ≡ 0 = omega arith in e) ∙ climb_none ds k x

-- the whole step down, as the loop has it
pub down_turn : (m : Mesh) → Lawful m → (bits : List Bool) (ds : List ℕ) (i I c : ℕ) (w : Way) (d A : ℕ) → suc i ≡ I →
    i < c → i < length ds → d < (level I bits m).n → climb ds I (c - I) (act (level I bits m) w d) ≡ A →
    climb (set ds i (way_digit w (d % 4))) i (c - i) (act (level i bits m) (way_under (get_or bits i false) (way_below w (d % 4))) (d / 4)) ≡ A
down_turn m l bits ds i I c w d A e ic il b q =
    down_step m l bits ds i c w d ic il (subst (λ k. d < (level k bits m).n) (sym e) b)
    ∙ ap (λ k. climb ds k (c - k) (act (level k bits m) w d)) e ∙ q
