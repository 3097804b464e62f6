-- An accepted average keeps a workpiece faithful.
use Rattle.std.proofs.Common.{◌≡◌, ℕ, ◌+◌, ◌*◌, ◌/◌, ◌^◌, ◌<◌, ◌≤◌, List, [], map, length, get_or, ℤ, pos, ◌*ℤ◌, sym, ap, ◌∙◌, subst, add-zero, pow-suc, add-one}
use Rattle.std.proofs.lemmas.Simd.{map-map}
use Rattle.std.proofs.lemmas.List.{length-map}
use Rattle.mesh.specs.Mesh.{turn, ring, dual, Lawful}
use Rattle.mesh.proofs.Rings.{ring_agree, ring_pos}
use Rattle.mesh.proofs.DualLaws.{dual_lawful}
use Rattle.mesh.proofs.Same.{same_trans, same_dual}
use Rattle.mesh.proofs.Figures.{figure_same, figure_dual}
use Rattle.mesh.proofs.Rounds.{Rounds, period, face_rounds, keeps}
use Rattle.point.specs.Listed.{totals_at}
use Rattle.point.specs.Points.{Point, coordinate, total, totals, distance, Each, Between}
use Rattle.workpiece.specs.Reckoning.{Reckoning, common, after_average}
use Rattle.workpiece.specs.Law.{Work, Faithful}
use Rattle.workpiece.specs.Outcomes.{Next, Averaged, ring_mean}
use Rattle.workpiece.proofs.Whole.{totals_near, average_near}
use Rattle.workpiece.proofs.Faces.{mean_next}
use Rattle.workpiece.proofs.Lists.{PlaceLaws, quotient, each_map, each_so, ring_below}

module _ {X : Type 0} {point : X → Point} {d slack : ℕ} {mean : ℕ → List ℤ → Point} (kind : PlaceLaws point d slack mean)
    {R : Reckoning} {w : Work} {before : List Point} (law : Lawful w.carrier) (faith : Faithful d slack R w before)
    (real : (h : ℕ) → h < w.carrier.n → (r : X) × (point r ≡ get_or before h []))
  where
    rs : Rounds w.carrier.n w.carrier.next
    rs = face_rounds law

    round : ℕ → List Point
    round h = map (λ x. get_or before x []) (ring w.carrier.next h)

    long : (h : ℕ) → length (round h) ≡ period w.carrier.next h
    unfolding round
    long h = length-map (ring w.carrier.next h) (λ x. get_or before x [])

    real_round : (h : ℕ) → h < w.carrier.n → Each (λ p. (r : X) × (point r ≡ p)) (round h)
    unfolding round
    real_round h l =
        each_map (λ p. (r : X) × (point r ≡ p)) (λ x. get_or before x []) (ring w.carrier.next h)
        (each_so (λ x. x < w.carrier.n) (λ x. (r : X) × (point r ≡ get_or before x [])) real (ring w.carrier.next h) (ring_below rs h l))

    -- the mean, as the kind's laws have it
    mean_is : (h : ℕ) → ring_mean d mean w.carrier before h ≡ mean (length (round h)) (totals d (round h))
    unfolding round
    mean_is h = ap (λ k. mean k (totals d (map (λ x. get_or before x []) (ring w.carrier.next h)))) (sym (long h))

    total_is : (h i : ℕ) → i < d → coordinate (totals d (round h)) i ≡ total (map (λ x. coordinate (get_or before x []) i) (ring w.carrier.next h))
    unfolding round
    total_is h i l = totals_at d (round h) i l ∙ ap total (map-map (λ p. coordinate p i) (λ x. get_or before x []) (ring w.carrier.next h))

    here_near : (h i : ℕ) → h < w.carrier.n → i < d
        → 2 * distance (coordinate (ring_mean d mean w.carrier before h) i *ℤ pos (common ^ (R.averages + 1))) ((after_average R).exact h i)
        ≤ slack * (R.averages + 1) * common ^ (R.averages + 1)
    here_near h i l li =
        let k : ℕ = period w.carrier.next h in
        let n0 : R.carrier.n ≡ w.carrier.n = sym faith.carried.n in
        let near₁ = kind.near (round h) (real_round h l) (rw (long h) (ring_pos w.carrier.next h)) (rw (long h) (rs.short h l)) i li in
        let near₂ : 2 * distance (coordinate (ring_mean d mean w.carrier before h) i *ℤ pos k) (total (map (λ x. coordinate (get_or before x []) i) (ring w.carrier.next h))) ≤ slack * k =
        rw (mean_is h, ← total_is h i li, ← long h) near₁ in
        let sums : 2 * distance (total (map (λ x. coordinate (get_or before x []) i) (ring w.carrier.next h)) *ℤ pos (common ^ R.averages)) (total (map (λ x. R.exact x i) (ring w.carrier.next h)))
        ≤ length (ring w.carrier.next h) * (slack * R.averages * common ^ R.averages) =
        totals_near (λ x. coordinate (get_or before x []) i) (λ x. R.exact x i) (common ^ R.averages) (slack * R.averages * common ^ R.averages) (ring w.carrier.next h)
        (each_so (λ x. x < w.carrier.n) (λ x. 2 * distance (coordinate (get_or before x []) i *ℤ pos (common ^ R.averages)) (R.exact x i) ≤ slack * R.averages * common ^ R.averages)
        (λ x lx. faith.near x i (subst (λ n. x < n) (sym n0) lx) li) (ring w.carrier.next h) (ring_below rs h l)) in
        let p : ℕ = common ^ R.averages in
        let q : ℕ = common / k in
        let n : ℤ = total (map (λ x. R.exact x i) (ring w.carrier.next h)) in
        let power : common ^ (R.averages + 1) ≡ p * (q * k) =
        ap (λ a. common ^ a) (add-one R.averages) ∙ pow-suc common R.averages ∙ ap (λ x. common ^ R.averages * x) (quotient k (ring_pos w.carrier.next h) (rs.short h l)) in
        let exact : (after_average R).exact h i ≡ n *ℤ pos q =
        ap (λ xs. total (map (λ x. R.exact x i) xs) *ℤ pos (common / length xs)) (ring_agree w.carrier.n w.carrier.next R.carrier.next law.next_below (λ x b. sym (faith.carried.next x b)) h l) in
        let sums' : 2 * distance (total (map (λ x. coordinate (get_or before x []) i) (ring w.carrier.next h)) *ℤ pos p) n ≤ k * (slack * R.averages * p) = sums in
        let all = average_near (coordinate (ring_mean d mean w.carrier before h) i) (total (map (λ x. coordinate (get_or before x []) i) (ring w.carrier.next h))) n k q p slack R.averages near₂ sums' in
        subst (λ z. 2 * distance (coordinate (ring_mean d mean w.carrier before h) i *ℤ pos (common ^ (R.averages + 1))) z ≤ slack * (R.averages + 1) * common ^ (R.averages + 1)) (sym exact)
        (subst (λ z. 2 * distance (coordinate (ring_mean d mean w.carrier before h) i *ℤ pos z) (n *ℤ pos q) ≤ slack * (R.averages + 1) * z) (sym power) all)

    here_inside : (h i : ℕ) → h < w.carrier.n → i < d → (lo hi : ℤ) → Each (Between lo hi i) R.entered → Between lo hi i (ring_mean d mean w.carrier before h)
    unfolding round
    here_inside h i l li lo hi e =
        let n0 : R.carrier.n ≡ w.carrier.n = sym faith.carried.n in
        let parts : Each (Between lo hi i) (map (λ x. get_or before x []) (ring w.carrier.next h)) =
        each_map (Between lo hi i) (λ x. get_or before x []) (ring w.carrier.next h)
        (each_so (λ x. x < w.carrier.n) (λ x. Between lo hi i (get_or before x [])) (λ x lx. faith.inside x i (subst (λ n. x < n) (sym n0) lx) li lo hi e) (ring w.carrier.next h)
        (ring_below rs h l)) in
        subst (Between lo hi i) (sym (mean_is h))
        (kind.inside (round h) (real_round h l) (rw (long h) (ring_pos w.carrier.next h)) (rw (long h) (rs.short h l)) i li lo hi parts)

    pub average_keeps : {w' : Work} {after : List Point} → Next 0 1 (dual w.carrier) w w' → Averaged d mean w.carrier before after
        → Faithful d slack (after_average R) w' after
    average_keeps {w'} {after} next out = record {
      carried = same_trans next.carried (same_dual w.carrier R.carrier law faith.carried);
      split_so = next.split_so ∙ add-zero w.splits ∙ faith.split_so;
      averaged_so = next.averaged_so ∙ ap (λ a. a + 1) faith.averaged_so;
      covers = rw out.long faith.covers;
      near = λ h i l li. subst (λ z. 2 * distance (coordinate z i *ℤ pos (common ^ (R.averages + 1))) ((after_average R).exact h i) ≤ slack * (R.averages + 1) * common ^ (R.averages + 1))
          (sym (out.here h (low h l))) (here_near h i (low h l) li);
      rings = λ h k l. keeps R.carrier.n (turn (dual R.carrier)) (λ x. get_or after x []) below one k h l;
      inside = λ h i l li lo hi e. subst (Between lo hi i) (sym (out.here h (low h l))) (here_inside h i (low h l) li lo hi e);
      figured = sym (figure_same (dual_lawful w.carrier law) (same_dual w.carrier R.carrier law faith.carried)) ∙ figure_dual w.carrier law ∙ figure_same law faith.carried ∙ faith.figured;
    }
      where
        low : (h : ℕ) → h < R.carrier.n → h < w.carrier.n
        low h l = subst (λ n. h < n) (sym faith.carried.n) l

        high : (h : ℕ) → h < w.carrier.n → h < R.carrier.n
        high h l = subst (λ n. h < n) faith.carried.n l

        -- the vertex rings of the dual are the face rings
        turned : (h : ℕ) → h < R.carrier.n → turn (dual R.carrier) h ≡ w.carrier.next h
        turned h l =
            let t : R.carrier.twin h ≡ w.carrier.twin h = sym (faith.carried.twin h (low h l)) in
            let tt' : R.carrier.twin (R.carrier.twin h) ≡ h =
            ap R.carrier.twin t ∙ sym (faith.carried.twin (w.carrier.twin h) (law.twin_below h (low h l))) ∙ law.twin_twin h (low h l) in
            ap R.carrier.next tt' ∙ sym (faith.carried.next h (low h l))

        below : (h : ℕ) → h < R.carrier.n → turn (dual R.carrier) h < R.carrier.n
        below h l = subst (λ x. x < R.carrier.n) (sym (turned h l)) (high (w.carrier.next h) (law.next_below h (low h l)))

        one : (h : ℕ) → h < R.carrier.n → get_or after (turn (dual R.carrier) h) [] ≡ get_or after h []
        one h l =
            ap (λ x. get_or after x []) (turned h l) ∙ out.here (w.carrier.next h) (law.next_below h (low h l)) ∙ mean_next d mean law before h (low h l) ∙ sym (out.here h (low h l))
