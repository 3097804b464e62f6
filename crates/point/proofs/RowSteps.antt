-- One turn of each loop over the handles.
use Rattle.std.proofs.Common.{◌≡◌, ℕ, ◌+◌, ◌-◌, ◌<◌, ◌≤◌, List, [], ◌∷◌, ◌++◌, length, take, drop, set, ℤ, pos, ◌+ℤ◌, ◌*ℤ◌, sym, ap, ◌∙◌, ap₂, arith}
use lib.IntN.{+ℤ_assoc, +ℤ_idl, +ℤ_idr}
use borrow.Author.Differences.{ints}
use Rattle.std.proofs.lemmas.List.{append-nil, append_assoc, take_all, take_more, take_more_set, drop_all, at_drop_more, get_or-set_other}
use Rattle.std.proofs.lemmas.List.Edits.{fill_by_more}
use Rattle.point.specs.Points.{coordinate, total, one_more}
use Rattle.point.specs.Listed.{total_one_more}
use Rattle.point.specs.Dealing.{handle_count, row_whole, floor_of, gets, dealt}

-- ---- a total
total_push : (xs : List ℤ) (z : ℤ) → total (xs ++ (z ∷ [])) ≡ total xs +ℤ z
total_push [] z = +ℤ_idr z ∙ sym (+ℤ_idl z)
total_push (x ∷ xs) z = ap (λ v. x +ℤ v) (total_push xs z) ∙ sym (+ℤ_assoc x (total xs) z)

pub total_more : (xs : List ℤ) (i : ℕ) → i < length xs → total (take (i + 1) xs) ≡ total (take i xs) +ℤ coordinate xs i
total_more xs i l = ap total (take_more xs i (pos 0) l) ∙ total_push (take i xs) (coordinate xs i)

-- ---- a number written at i
pub written_below : (f : ℕ → ℤ) (xs : List ℤ) (i : ℕ) (v : ℤ) → i < length xs → v ≡ f i → ((k : ℕ) → k < i → coordinate xs k ≡ f k) → (k : ℕ) → k < i + 1 → coordinate (set xs i v) k ≡ f k
written_below f xs i v l e h k b = ap (λ (z : ℤ). coordinate (set xs i z) k) e ∙ fill_by_more f xs i (pos 0) l h k b

pub written_above : (xs ys : List ℤ) (i : ℕ) (v : ℤ) → ((k : ℕ) → i ≤ k → coordinate xs k ≡ coordinate ys k) → (k : ℕ) → i + 1 ≤ k → coordinate (set xs i v) k ≡ coordinate ys k
written_above xs ys i v h k b = get_or-set_other xs i k v (pos 0) (λ e. omega arith) ∙ h k (omega arith)

-- ---- the dealing
pub deal_more : (k left m i g : ℕ) (ts ws : List ℤ) (v : ℤ) → i < length ts → i < length ws → g ≡ gets k left (coordinate ts i) → v ≡ floor_of k (coordinate ts i) +ℤ pos g
    → take i ws ++ dealt k left (drop i ts) ≡ dealt k m ts → take (i + 1) (set ws i v) ++ dealt k (left - g) (drop (i + 1) ts) ≡ dealt k m ts
deal_more k left m i g ts ws v l n eg ev h =
    let d = at_drop_more (dealt k left) ts i (pos 0) l in
    let turn : v ∷ dealt k (left - g) (drop (i + 1) ts) ≡ dealt k left (drop i ts) =
    ap (λ (z : ℤ). z ∷ dealt k (left - g) (drop (i + 1) ts)) ev ∙ ap (λ (u : ℕ). (floor_of k (coordinate ts i) +ℤ pos u) ∷ dealt k (left - u) (drop (i + 1) ts)) eg ∙ sym d in
    ap (λ (zs : List ℤ). zs ++ dealt k (left - g) (drop (i + 1) ts)) (take_more_set ws i v n) ∙ append_assoc (take i ws) (v ∷ []) (dealt k (left - g) (drop (i + 1) ts)) ∙ ap (λ (zs : List ℤ). take i ws ++ zs) turn ∙ h

pub deal_all : (k left m i : ℕ) (ts ws : List ℤ) → length ts ≤ i → length ws ≤ i → take i ws ++ dealt k left (drop i ts) ≡ dealt k m ts → ws ≡ dealt k m ts
deal_all k left m i ts ws l n h = sym (append-nil ws) ∙ sym (ap₂ (λ (a b : List ℤ). a ++ dealt k left b) (take_all i ws n) (drop_all i ts l)) ∙ h

-- ---- a sum with one row more
pub sum_whole : (n : ℕ) (ts ws : List ℤ) → length ts ≡ handle_count → length ws ≡ handle_count → total ts ≡ pos n *ℤ row_whole → total ws ≡ row_whole → total (one_more handle_count ts ws) ≡ pos (n + 1) *ℤ row_whole
sum_whole n ts ws l m e f = omega (arith, ints, total_one_more handle_count ts ws l m)
