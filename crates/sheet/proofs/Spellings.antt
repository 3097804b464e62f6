-- The texts of a sheet's form are the writings of the sheets in range.
use Rattle.std.proofs.Common.{◌≡◌, ℕ, zero, suc, ◌≤◌, List, [], ◌∷◌, ◌++◌, length, ℤ, codes, decimal, sym, refl, ap, ◌∙◌, subst, append_assoc, append-nil, arith, length-append}
use Rattle.std.specs.List.{flat_map, AllByRecursion}
use Rattle.std.specs.Fmt.{signed_decimal}
use Rattle.std.proofs.lemmas.List.{nil_from_length}
use Rattle.point.specs.declared.solid.SolidRecord.{SolidRecord}
use Rattle.sheet.specs.Form.{Form, gives, token, natural, coordinate, end, after, times, blank, line_end}
use Rattle.sheet.proofs.Grammar.{Spelled, s_gives, s_token, s_natural, s_coordinate, s_end}
use Rattle.sheet.specs.Sheet.{Sheet, sheet, point_line, corner, face_line, closed, faced, point_text, face_text, sheet_text, PointIn, FaceIn, Ranged}

-- a spelling of one form after another is in two parts
pub record Two {A B : Type 0} (f : Form A) (k : A → Form B) (b : B) (bs : List ℕ) : Type 0 where
  pub a : A
  pub front : List ℕ
  pub back : List ℕ
  pub first : Spelled f a front
  pub second : Spelled (k a) b back
  pub whole : bs ≡ front ++ back

no_front : (xs ys : List ℕ) → [] ≡ xs ++ ys → xs ≡ []
no_front xs ys e = nil_from_length xs (omega (arith, ap length e, length-append xs ys))

pub two : {A B : Type 0} (f : Form A) (k : A → Form B) {b : B} {bs : List ℕ} → Spelled (after f k) b bs → Two f k b bs
two (gives a) k {b} {bs} s = record { a = a; front = []; back = bs; first = s_gives; second = s; whole = refl }
two (token w f) k (s_token s) =
    let t = two f k s in
    record { a = t.a; front = w ++ t.front; back = t.back; first = s_token t.first; second = t.second; whole = ap (λ x. w ++ x) t.whole ∙ sym (append_assoc w t.front t.back) }
two (natural low high g) k (s_natural n l h s) =
    let t = two (g n) k s in
    record { a = t.a; front = decimal n ++ t.front; back = t.back; first = s_natural n l h t.first; second = t.second; whole = ap (λ x. decimal n ++ x) t.whole ∙ sym (append_assoc (decimal n) t.front t.back) }
two (coordinate g) k (s_coordinate z h s) =
    let t = two (g z) k s in
    record { a = t.a; front = signed_decimal z ++ t.front; back = t.back; first = s_coordinate z h t.first; second = t.second; whole = ap (λ x. signed_decimal z ++ x) t.whole ∙ sym (append_assoc (signed_decimal z) t.front t.back) }
two (end f) k (s_end s) =
    let t = two f k s in
    let e = no_front t.front t.back t.whole in
    record { a = t.a; front = []; back = t.back; first = s_end (subst (λ x. Spelled f t.a x) e t.first); second = t.second; whole = t.whole ∙ ap (λ x. x ++ t.back) e }

-- a form that does not want the end of the text
unfoldable pub Endless : {A : Type 0} → Form A → Type 0
Endless (gives a) = Unit {0}
Endless (token w f) = Endless f
Endless (natural low high k) = (n : ℕ) → Endless (k n)
Endless (coordinate k) = (z : ℤ) → Endless (k z)
Endless (end f) = ⊥

endless_after : {A B : Type 0} (f : Form A) (k : A → Form B) → Endless f → ((a : A) → Endless (k a)) → Endless (after f k)
unfolding Endless
endless_after (gives a) k e h = h a
endless_after (token w f) k e h = endless_after f k e h
endless_after (natural low high g) k e h = λ n. endless_after (g n) k (e n) h
endless_after (coordinate g) k e h = λ z. endless_after (g z) k (e z) h
endless_after (end f) k e h = absurd e

pub endless_times : {A : Type 0} (n : ℕ) (f : Form A) → Endless f → Endless (times n f)
unfolding Endless
endless_times zero f e = tt
endless_times (suc n) f e = endless_after f _ e (λ a. endless_after (times n f) _ (endless_times n f e) (λ rest. tt))

pub both : {A B : Type 0} {f : Form A} {a : A} {b : B} {xs ys : List ℕ} → Spelled f a xs → Endless f → (k : A → Form B) → Spelled (k a) b ys → Spelled (after f k) b (xs ++ ys)
unfolding Endless
both s_gives e k t = t
both {b = b} {ys = ys} (s_token {w = w} {f = f} {bs = bs} s) e k t = subst (λ x. Spelled (token w (after f k)) b x) (sym (append_assoc w bs ys)) (s_token (both s e k t))
both {b = b} {ys = ys} (s_natural {low = low} {high = high} {k = g} {bs = bs} n l h s) e k t = subst (λ x. Spelled (natural low high (λ m. after (g m) k)) b x) (sym (append_assoc (decimal n) bs ys)) (s_natural n l h (both s (e n) k t))
both {b = b} {ys = ys} (s_coordinate {k = g} {bs = bs} z h s) e k t = subst (λ x. Spelled (coordinate (λ m. after (g m) k)) b x) (sym (append_assoc (signed_decimal z) bs ys)) (s_coordinate z h (both s (e z) k t))
both (s_end s) e k t = absurd e

-- a form whose value is told otherwise has the same texts
pub retold : {A B : Type 0} {f : Form A} {a : A} {bs : List ℕ} → Spelled f a bs → (g : A → B) → Spelled (after f (λ x. gives (g x))) (g a) bs
retold s_gives g = s_gives
retold (s_token s) g = s_token (retold s g)
retold (s_natural n l h s) g = s_natural n l h (retold s g)
retold (s_coordinate z h s) g = s_coordinate z h (retold s g)
retold (s_end s) g = s_end (retold s g)

pub said : {A : Type 0} {a b : A} {bs : List ℕ} → Spelled (gives a) b bs → (a ≡ b) × (bs ≡ [])
said s_gives = (refl, refl)

-- the texts of a form that says a are the one writing of a, for the a that are in range
pub record Writes {A : Type 0} (f : Form A) (tx : A → List ℕ) (In : A → Type 0) : Type 0 where
  pub only : {a : A} {bs : List ℕ} → Spelled f a bs → (bs ≡ tx a) × In a
  pub every : (a : A) → In a → Spelled f a (tx a)
  pub endless : Endless f

module _ {A : Type 0} (f : Form A) (tx : A → List ℕ) (In : A → Type 0) (w : Writes f tx In) where
  times_only : (n : ℕ) {ps : List A} {bs : List ℕ} → Spelled (times n f) ps bs → (bs ≡ flat_map tx ps) × AllByRecursion In ps × (length ps ≡ n)
  times_only zero s_gives = (refl, tt, refl)
  times_only (suc n) {ps} {bs} s =
      let t = two f (λ a. after (times n f) (λ rest. gives (a ∷ rest))) s in
      let u = two (times n f) (λ rest. gives (t.a ∷ rest)) t.second in
      let g = said u.second in
      let o = w.only t.first in
      let i = times_only n u.first in
      let e : bs ≡ flat_map tx (t.a ∷ u.a) =
      t.whole ∙ (λ j. o.0 j ++ (u.whole ∙ (λ l. i.0 l ++ g.1 l) ∙ append-nil (flat_map tx u.a)) j) in
      (e ∙ ap (flat_map tx) g.0, subst (AllByRecursion In) g.0 (o.1, i.1), ap length (sym g.0) ∙ ap suc i.2)

  times_every : (ps : List A) → AllByRecursion In ps → Spelled (times (length ps) f) ps (flat_map tx ps)
  times_every [] h = s_gives
  times_every (p ∷ ps) h =
      both (w.every p h.0) w.endless (λ a. after (times (length ps) f) (λ rest. gives (a ∷ rest)))
      (subst (λ x. Spelled (after (times (length ps) f) (λ rest. gives (p ∷ rest))) (p ∷ ps) x) (append-nil (flat_map tx ps))
      (both (times_every ps h.1) (endless_times (length ps) f w.endless) (λ rest. gives (p ∷ rest)) s_gives))

pub point_writes : Writes point_line point_text PointIn
unfolding Endless
point_writes = record {
  only = λ s. go s;
  every = λ a i. s_coordinate a.x i.0 (s_token (s_coordinate a.y i.1 (s_token (s_coordinate a.z i.2 (s_token s_gives)))));
  endless = λ x y z. tt;
}
  where
    go : {a : SolidRecord} {bs : List ℕ} → Spelled point_line a bs → (bs ≡ point_text a) × PointIn a
    go (s_coordinate x hx (s_token (s_coordinate y hy (s_token (s_coordinate z hz (s_token s_gives)))))) = (refl, (hx, hy, hz))

pub corner_writes : Writes corner (λ v. blank ++ decimal v) (λ v. v ≤ 1048575)
unfolding Endless
corner_writes = record {
  only = λ s. go s;
  every = λ v i. s_token (subst (λ x. Spelled (natural 0 1048575 (λ v. gives v)) v x) (append-nil (decimal v)) (s_natural v (omega arith) i s_gives));
  endless = λ v. tt;
}
  where
    go : {v : ℕ} {bs : List ℕ} → Spelled corner v bs → (bs ≡ blank ++ decimal v) × (v ≤ 1048575)
    go (s_token (s_natural v l h s_gives)) = (ap (λ x. blank ++ x) (append-nil (decimal v)), h)

pub face_writes : Writes face_line face_text FaceIn
unfolding Endless
face_writes = record { only = λ s. go s; every = back; endless = λ k. endless_after (times k corner) _ (endless_times k corner corner_writes.endless) (λ vs. tt) }
  where
    last : {vs us : List ℕ} {bs : List ℕ} → Spelled (token line_end (gives vs)) us bs → (vs ≡ us) × (bs ≡ line_end)
    last (s_token s_gives) = (refl, refl)

    go : {vs : List ℕ} {bs : List ℕ} → Spelled face_line vs bs → (bs ≡ face_text vs) × FaceIn vs
    go {vs} (s_natural k l h s) =
        let t = two (times k corner) (λ vs. token line_end (gives vs)) s in
        let e = last t.second in
        let o = times_only corner (λ v. blank ++ decimal v) (λ v. v ≤ 1048575) corner_writes k t.first in
        let n : length vs ≡ k = ap length (sym e.0) ∙ o.2 in (
          (λ j. decimal (sym n j) ++ (t.whole ∙ (λ i. (o.0 ∙ ap (flat_map (λ v. blank ++ decimal v)) e.0) i ++ e.1 i)) j),
          (omega arith, omega arith, subst (AllByRecursion (λ v. v ≤ 1048575)) e.0 o.1),
        )

    back : (vs : List ℕ) → FaceIn vs → Spelled face_line vs (face_text vs)
    back vs i = s_natural (length vs) i.0 i.1 (both (times_every corner (λ v. blank ++ decimal v) (λ v. v ≤ 1048575) corner_writes vs i.2) (endless_times (length vs) corner corner_writes.endless) (λ us. token line_end (gives us)) (s_token s_gives))

abbrev faces_text : List (List ℕ) → List ℕ
faces_text fs = codes "faces" ++ (blank ++ (decimal (length fs) ++ (line_end ++ (flat_map face_text fs ++ (codes "end" ++ line_end)))))

closing_only : {ps : List SolidRecord} {fs : List (List ℕ)} {s : Sheet} {bs : List ℕ} → Spelled (closed ps fs) s bs → (record { points = ps; faces = fs } ≡ s) × (bs ≡ codes "end" ++ line_end)
closing_only (s_token (s_token (s_end s_gives))) = (refl, refl)

record Faces (ps : List SolidRecord) (s : Sheet) (bs : List ℕ) : Type 0 where
  fs : List (List ℕ)
  is : record { points = ps; faces = fs } ≡ s
  text : bs ≡ faces_text fs
  within : AllByRecursion FaceIn fs
  few : length fs ≤ 1048576

faces_only : {ps : List SolidRecord} {s : Sheet} {bs : List ℕ} → Spelled (faced ps) s bs → Faces ps s bs
faces_only {ps} (s_token (s_token (s_natural m l h (s_token s)))) =
    let t = two (times m face_line) (closed ps) s in
    let o = times_only face_line face_text FaceIn face_writes m t.first in
    let e = closing_only t.second in
    record {
      fs = t.a;
      is = e.0;
      text = λ j. codes "faces" ++ (blank ++ (decimal (sym o.2 j) ++ (line_end ++ (t.whole ∙ (λ i. o.0 i ++ e.1 i)) j)));
      within = o.1;
      few = omega (arith, o.2);
    }

pub sheet_only : {s : Sheet} {bs : List ℕ} → Spelled sheet s bs → (bs ≡ sheet_text s) × Ranged s
sheet_only {s} (s_token (s_token (s_natural n l h (s_token r)))) =
    let t = two (times n point_line) faced r in
    let o = times_only point_line point_text PointIn point_writes n t.first in
    let f = faces_only t.second in (
      (λ j. codes "points" ++ (blank ++ (decimal (sym o.2 j) ++ (line_end ++ (t.whole ∙ (λ i. o.0 i ++ f.text i)) j)))) ∙ ap sheet_text f.is,
      subst Ranged f.is (record { few_points = omega (arith, o.2); few_faces = f.few; points_in = o.1; faces_in = f.within }),
    )

pub sheet_every : (s : Sheet) → Ranged s → Spelled sheet s (sheet_text s)
sheet_every s r =
    s_token (s_token (s_natural (length s.points) (omega arith) r.few_points (s_token
    (both (times_every point_line point_text PointIn point_writes s.points r.points_in) (endless_times (length s.points) point_line point_writes.endless) faced
    (s_token (s_token (s_natural (length s.faces) (omega arith) r.few_faces (s_token
    (both (times_every face_line face_text FaceIn face_writes s.faces r.faces_in) (endless_times (length s.faces) face_line face_writes.endless) (closed s.points)
    (s_token (s_token (s_end s_gives))))))))))))
