-- Walks round rings, and the vertex numbers of darts one after the other.
use Rattle.std.proofs.Common.{◌≡◌, ℕ, zero, suc, ◌+◌, ◌<◌, ◌≤◌, ltb, Some, None, Bool, true, false, List, [], ◌∷◌, ◌++◌, map, length, get_or, sym, refl, ap, ◌∙◌, ⊎_elim, arith}
use Rattle.std.specs.List.{range_with_len, find}
use Rattle.std.proofs.lemmas.Bool.{cases_Bool, cond-true, cond-false, ltb-true, ltb-false, lt-ltb}
use Rattle.std.proofs.lemmas.List.FromFn.{get_or-map-range_with_len, map-range_with_len_more}
use Rattle.mesh.specs.Mesh.{Mesh, Lawful, turn, ring}
use Rattle.mesh.specs.Count.{leads, rings}
use Rattle.mesh.proofs.Rings.{On, on_steps, ring_at}
use Rattle.mesh.proofs.Rounds.{Rounds, face_rounds, back_rounds, back_long}
use Rattle.mesh.proofs.Leads.{decides_leads}
use Rattle.skin.specs.Orbits.{ring_of}
use Rattle.writer.specs.Listing.{vertex_of, way}
use Rattle.writer.proofs.Leaders.{lead_same, leads_lead}

-- a face has as many darts either way
pub way_long : (m : Mesh) → Lawful m → (backward : Bool) (h : ℕ) → h < m.n → length (ring (way m backward) h) ≡ length (ring m.next h)
way_long m l true h b = back_long l h b
way_long m l false h b = refl

pub way_rounds : (m : Mesh) → Lawful m → (backward : Bool) → Rounds m.n (way m backward)
way_rounds m l true = back_rounds l
way_rounds m l false = face_rounds l

find_some : (p : ℕ → Bool) (xs : List ℕ) (d : ℕ) → find p xs ≡ Some d → (i : ℕ) × (i < length xs) × (get_or xs i 0 ≡ d) × (p d ≡ true)
find_some p [] d e = absurd (let z : ◌≡◌ {A = ℕ} 0 1 = cc in omega arith)
find_some p (x ∷ xs) d e =
    ⊎_elim
    (λ t.
    let q : x ≡ d = let s : Some x ≡ Some d = sym (cond-true (p x) (Some x) (find p xs) t) ∙ e in cc in
    (0, (let b : 0 < suc (length xs) = omega arith in b), q, ap p (sym q) ∙ t))
    (λ t.
    let r = find_some p xs d (sym (cond-false (p x) (Some x) (find p xs) t) ∙ e) in
    let k : r.0 < length xs = r.1 in
    (suc r.0, (let b : suc r.0 < suc (length xs) = omega arith in b), r.2, r.3))
    (cases_Bool (p x))

find_none : (p : ℕ → Bool) (xs : List ℕ) → find p xs ≡ None → (i : ℕ) → i < length xs → p (get_or xs i 0) ≡ false
find_none p [] e i b = absurd (omega arith)
find_none p (x ∷ xs) e i b =
    ⊎_elim
    (λ t. absurd (let s : Some x ≡ None = sym (cond-true (p x) (Some x) (find p xs) t) ∙ e in cc))
    (λ t. at i b t (find_none p xs (sym (cond-false (p x) (Some x) (find p xs) t) ∙ e)))
    (cases_Bool (p x))
  where
    at : (j : ℕ) → j < length (x ∷ xs) → p x ≡ false → ((k : ℕ) → k < length xs → p (get_or xs k 0) ≡ false) → p (get_or (x ∷ xs) j 0) ≡ false
    at zero c t f = t
    at (suc j) c t f = f j (omega arith)

-- d is smaller than h and in its ring
pub record Smaller (f : ℕ → ℕ) (h d : ℕ) : Type 0 where
  pub under : d < h
  pub on : On f h d

-- a walk round the ring of h for a smaller dart
pub found_smaller : (f : ℕ → ℕ) (h d : ℕ) → find (λ x. ltb x h) (ring f h) ≡ Some d → Smaller f h d
found_smaller f h d e =
    let q = find_some (λ x. ltb x h) (ring f h) d e in
    record { under = ltb-true d h q.3; on = (q.0, q.1, sym (ring_at f h q.0 q.1) ∙ q.2) }

-- that finds none, where h leads
pub none_smaller : (f : ℕ → ℕ) (h : ℕ) → length (ring f h) ≤ 64 → find (λ x. ltb x h) (ring f h) ≡ None → leads f h ≡ true
none_smaller f h s e =
    (decides_leads f h s).1
    (λ k.
    let o = on_steps f h s k in
    let n : h ≤ get_or (ring f h) o.0 0 = ltb-false _ h (find_none (λ x. ltb x h) (ring f h) e o.0 o.1) in
    omega (arith, o.2, ring_at f h o.0 o.1))

pub smaller_follows : (f : ℕ → ℕ) (h d : ℕ) → length (ring f h) ≤ 64 → Smaller f h d → leads f h ≡ false
smaller_follows f h d s u =
    ⊎_elim
    (λ t. absurd (omega (arith, (decides_leads f h s).0 t u.on.0, u.on.2, u.under)))
    (λ t. t)
    (cases_Bool (leads f h))

-- the number of a dart that leads
pub number_lead : (m : Mesh) → Lawful m → (h : ℕ) → h < m.n → leads (turn m) h ≡ true → rings (turn m) h ≡ vertex_of m h
number_lead m l h b e = ap (rings (turn m)) (sym (leads_lead (turn m) h (l.vertices_short h b) e))

pub numbers_push : (m : Mesh) (items items' : List ℕ) (h x : ℕ) → items ≡ map (vertex_of m) (range_with_len 0 h) → items' ≡ items ++ x ∷ [] → x ≡ vertex_of m h →
    items' ≡ map (vertex_of m) (range_with_len 0 (h + 1))
numbers_push m items items' h x e q v =
    q ∙ ap (λ y. y ++ x ∷ []) e ∙ ap (λ y. map (vertex_of m) (range_with_len 0 h) ++ y ∷ []) v ∙ sym (map-range_with_len_more (vertex_of m) 0 h h (omega arith))

-- what stands at a smaller dart of the ring is the number of h
pub numbers_read : (m : Mesh) → Lawful m → (items : List ℕ) (h d x : ℕ) → h < m.n → items ≡ map (vertex_of m) (range_with_len 0 h) →
    Smaller (turn m) h d → x ≡ get_or items d x → x ≡ vertex_of m h
numbers_read m l items h d x b e u r =
    r ∙ ap (λ y. get_or y d x) e ∙ get_or-map-range_with_len (vertex_of m) 0 h d d x u.under (omega arith)
    ∙ ap (rings (turn m)) (lead_same (turn m) h d (l.vertices_short h b) u.on)

-- the whole ring of a dart
pub ring_of_is : (n : ℕ) (f : ℕ → ℕ) (h : ℕ) → h < n → ring_of n f h ≡ ring f h
ring_of_is n f h b = cond-true (ltb h n) (ring f h) [] (lt-ltb h n b)
