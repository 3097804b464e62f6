-- The lines of a sheet, one after another.
use Rattle.std.proofs.Common.{◌≡◌, ℕ, ◌+◌, ◌<◌, ◌≤◌, List, ◌∷◌, length, Ok, Err, codes, Result, sym, refl, ap, ◌∙◌, subst, arith, length-append}
use Rattle.sheet.specs.declared.fault.TextFault.{TextFault}
use Rattle.point.specs.declared.solid.SolidRecord.{SolidRecord}
use Rattle.sheet.specs.declared.record.Layout.{Layout}
use Rattle.sheet.specs.Form.{gives, token, natural, judge, after, times, then, place_of, viewed, token_at, natural_at, line_end}
use Rattle.sheet.proofs.Grammar.{Spelled, s_token, s_natural, s_gives}
use Rattle.sheet.specs.Sheet.{Sheet, sheet, point_line, corner, face_line, header, closing_line, closed, faced, corners_of, corner_count}
use Rattle.sheet.specs.Fill.{Says}
use Rattle.sheet.specs.Read.{Laid, Judged}
use Rattle.sheet.proofs.Forms.{judge_after, then_cong, never, ok_is, times_length, placed_ok, placed_err, viewed_ok, viewed_err}
use Rattle.sheet.proofs.Sound.{sound}

-- a face line, by its number and its corners
module _ (text : List ℕ) (at k p : ℕ) (num : natural_at 1 64 text at ≡ Ok (k, p)) where
  pub face_is : judge face_line text at ≡ then (judge (times k corner) text p) (λ r. then (token_at line_end text r.1) (λ q. Ok (r.0, q)))
  face_is =
      ap (λ x. then x (λ r. judge (after (times r.0 corner) (λ vs. token line_end (gives vs))) text r.1)) num
      ∙ judge_after (times k corner) (λ vs. token line_end (gives vs)) text p

  pub face_corner_err : (e : TextFault) → place_of (judge (times k corner) text p) ≡ Err e → Err e ≡ viewed length (judge face_line text at)
  face_corner_err e h = sym (ap (viewed length) (face_is ∙ ap (λ x. then x (λ r. then (token_at line_end text r.1) (λ q. Ok (r.0, q)))) (placed_err (judge (times k corner) text p) e h)))

  module _ (p₂ : ℕ) (cs : place_of (judge (times k corner) text p) ≡ Ok p₂) where
    pub found : (vs : List ℕ) × (judge (times k corner) text p ≡ Ok (vs, p₂))
    found = placed_ok (judge (times k corner) text p) p₂ cs

    pub face_end_err : (e : TextFault) → token_at line_end text p₂ ≡ Err e → Err e ≡ viewed length (judge face_line text at)
    face_end_err e h = sym (ap (viewed length) (face_is ∙ ap (λ x. then x (λ r. then (token_at line_end text r.1) (λ q. Ok (r.0, q)))) found.1
        ∙ ap (λ x. then x (λ q. Ok (found.0, q))) h))

    pub face_ok : (q : ℕ) → token_at line_end text p₂ ≡ Ok q → Ok (k, q) ≡ viewed length (judge face_line text at)
    face_ok q h = sym (ap (viewed length) (face_is ∙ ap (λ x. then x (λ r. then (token_at line_end text r.1) (λ q. Ok (r.0, q)))) found.1
        ∙ ap (λ x. then x (λ q. Ok (found.0, q))) h)
        ∙ ap (λ n. Ok (n, q)) (times_length k corner text p found.0 p₂ found.1))

-- what a face line that is accepted is made of
pub face_split : (text : List ℕ) (at k p : ℕ) → natural_at 1 64 text at ≡ Ok (k, p) → (vs : List ℕ) (q : ℕ) → judge face_line text at ≡ Ok (vs, q) → (p₂ : ℕ) × (judge (times k corner) text p ≡ Ok (vs, p₂)) × (token_at line_end text p₂ ≡ Ok q) × (length vs ≡ k)
face_split text at k p num vs q e = go (judge (times k corner) text p) refl (sym (face_is text at k p num) ∙ e)
  where
    go₂ : (r : List ℕ × ℕ) (x : Result ℕ TextFault) → token_at line_end text r.1 ≡ x → judge (times k corner) text p ≡ Ok r → then {B = List ℕ × ℕ} x (λ q. Ok (r.0, q)) ≡ Ok (vs, q) → (p₂ : ℕ) × (judge (times k corner) text p ≡ Ok (vs, p₂)) × (token_at line_end text p₂ ≡ Ok q) × (length vs ≡ k)
    go₂ r (Ok z) t h e =
        let o = ok_is _ _ e in
        let l = times_length k corner text p r.0 r.1 h in
        (r.1, h ∙ ap (λ x. Ok (x, r.1)) (ap (λ s. s.0) o), t ∙ ap (λ x. Ok x) (ap (λ s. s.1) o), ap length (sym (ap (λ s. s.0) o)) ∙ l)
    go₂ r (Err x) t h e = absurd (never _ _ e)

    go : (x : Result (List ℕ × ℕ) TextFault) → judge (times k corner) text p ≡ x → then {B = List ℕ × ℕ} x (λ r. then (token_at line_end text r.1) (λ q. Ok (r.0, q))) ≡ Ok (vs, q) → (p₂ : ℕ) × (judge (times k corner) text p ≡ Ok (vs, p₂)) × (token_at line_end text p₂ ≡ Ok q) × (length vs ≡ k)
    go (Ok r) h e = go₂ r (token_at line_end text r.1) refl h e
    go (Err x) h e = absurd (never _ _ e)

-- numbers lie in their range
natural_in : {low high n : ℕ} {bs : List ℕ} → Spelled (natural low high (λ v. gives v)) n bs → (low ≤ n) × (n ≤ high)
natural_in (s_natural n l h s_gives) = (l, h)

pub natural_bound : (low high : ℕ) → high < 4294967295 → (text : List ℕ) (p n q : ℕ) → natural_at low high text p ≡ Ok (n, q) → (low ≤ n) × (n ≤ high)
natural_bound low high s text p n q e =
    natural_in (sound (natural low high (λ v. gives v)) (s, λ v. tt) text p n q (ap (λ x. then x (λ r. Ok (r.0, r.1))) e)).spelled

header_in : {w : List ℕ} {n : ℕ} {bs : List ℕ} → Spelled (header w) n bs → n ≤ 1048576
header_in (s_token (s_token (s_natural n l h (s_token s_gives)))) = h

pub header_bound : (w text : List ℕ) (p n q : ℕ) → judge (header w) text p ≡ Ok (n, q) → n ≤ 1048576
header_bound w text p n q e = header_in (sound (header w) (omega arith, λ v. tt) text p n q e).spelled

-- a table with room for the corners of a face's line has as many places as the line's number says
pub face_room : (text : List ℕ) (at k p : ℕ) → natural_at 1 64 text at ≡ Ok (k, p) → (m : ℕ) → Says face_line text at (λ vs. length vs ≤ m) → k ≤ m
face_room text at k p num m r = let s = face_split text at k p num r.0 r.1 r.2 in omega (arith, s.3, r.3)

-- the corners of one face more
pub count_more : (vs : List ℕ) (fs : List (List ℕ)) → corner_count (vs ∷ fs) ≡ length vs + corner_count fs
count_more vs fs = length-append vs (corners_of fs)

-- a sheet, line by line: what is left after the points' header, the points, the faces' header, the faces and the last line
module _ (text : List ℕ) where
  abbrev K₄ : List SolidRecord → List (List ℕ) → Result (Unit {0} × ℕ) TextFault → Result (Sheet × ℕ) TextFault
  K₄ ps fs x = then x (λ e. Ok (record { points = ps; faces = fs }, e.1))

  abbrev K₃ : List SolidRecord → Result (List (List ℕ) × ℕ) TextFault → Result (Sheet × ℕ) TextFault
  K₃ ps x = then x (λ d. K₄ ps d.0 (judge closing_line text d.1))

  abbrev K₂ : List SolidRecord → Result (ℕ × ℕ) TextFault → Result (Sheet × ℕ) TextFault
  K₂ ps x = then x (λ c. K₃ ps (judge (times c.0 face_line) text c.1))

  abbrev K₁ : Result (List SolidRecord × ℕ) TextFault → Result (Sheet × ℕ) TextFault
  K₁ x = then x (λ b. K₂ b.0 (judge (header (codes "faces")) text b.1))

  abbrev K₀ : Result (ℕ × ℕ) TextFault → Result (Sheet × ℕ) TextFault
  K₀ x = then x (λ a. K₁ (judge (times a.0 point_line) text a.1))

  sheet_is : (at : ℕ) → judge sheet text at ≡ K₀ (judge (header (codes "points")) text at)
  sheet_is at =
      judge_after (header (codes "points")) (λ n. after (times n point_line) faced) text at
      ∙ then_cong (judge (header (codes "points")) text at) _ _ (λ a.
      judge_after (times a.0 point_line) faced text a.1
      ∙ then_cong (judge (times a.0 point_line) text a.1) _ _ (λ b.
      judge_after (header (codes "faces")) (λ m. after (times m face_line) (closed b.0)) text b.1
      ∙ then_cong (judge (header (codes "faces")) text b.1) _ _ (λ c.
      judge_after (times c.0 face_line) (closed b.0) text c.1
      ∙ then_cong (judge (times c.0 face_line) text c.1) _ _ (λ d.
      judge_after closing_line (λ _. gives (record { points = b.0; faces = d.0 })) text d.1))))

  module _ (at n p₁ : ℕ) (h₁ : judge (header (codes "points")) text at ≡ Ok (n, p₁)) where
    to₁ : judge sheet text at ≡ K₁ (judge (times n point_line) text p₁)
    to₁ = sheet_is at ∙ ap K₀ h₁

    pub sheet_points_err : (e : TextFault) → place_of (judge (times n point_line) text p₁) ≡ Err e → judge sheet text at ≡ Err e
    sheet_points_err e h = to₁ ∙ ap K₁ (placed_err (judge (times n point_line) text p₁) e h)

    module _ (p₂ : ℕ) (h₂ : place_of (judge (times n point_line) text p₁) ≡ Ok p₂) where
      points_found : (ps : List SolidRecord) × (judge (times n point_line) text p₁ ≡ Ok (ps, p₂))
      points_found = placed_ok (judge (times n point_line) text p₁) p₂ h₂

      to₂ : judge sheet text at ≡ K₂ points_found.0 (judge (header (codes "faces")) text p₂)
      to₂ = to₁ ∙ ap K₁ points_found.1

      pub sheet_faces_err : (e : TextFault) → judge (header (codes "faces")) text p₂ ≡ Err e → judge sheet text at ≡ Err e
      sheet_faces_err e h = to₂ ∙ ap (K₂ points_found.0) h

      module _ (m p₃ : ℕ) (h₃ : judge (header (codes "faces")) text p₂ ≡ Ok (m, p₃)) where
        to₃ : judge sheet text at ≡ K₃ points_found.0 (judge (times m face_line) text p₃)
        to₃ = to₂ ∙ ap (K₂ points_found.0) h₃

        pub sheet_corners_err : (e : TextFault) → viewed corner_count (judge (times m face_line) text p₃) ≡ Err e → judge sheet text at ≡ Err e
        sheet_corners_err e h = to₃ ∙ ap (K₃ points_found.0) (viewed_err corner_count (judge (times m face_line) text p₃) e h)

        module _ (k p₄ : ℕ) (h₄ : viewed corner_count (judge (times m face_line) text p₃) ≡ Ok (k, p₄)) where
          faces_found : (fs : List (List ℕ)) × (judge (times m face_line) text p₃ ≡ Ok (fs, p₄)) × (corner_count fs ≡ k)
          faces_found = viewed_ok corner_count (judge (times m face_line) text p₃) k p₄ h₄

          to₄ : judge sheet text at ≡ K₄ points_found.0 faces_found.0 (judge closing_line text p₄)
          to₄ = to₃ ∙ ap (K₃ points_found.0) faces_found.1

          pub sheet_closing_err : (e : TextFault) → place_of (judge closing_line text p₄) ≡ Err e → judge sheet text at ≡ Err e
          sheet_closing_err e h = to₄ ∙ ap (K₄ points_found.0 faces_found.0) (placed_err (judge closing_line text p₄) e h)

          pub sheet_ok : (p₅ : ℕ) → place_of (judge closing_line text p₄) ≡ Ok p₅ → Laid text at (record { sizes = record { points = n; faces = m; corners = k }; points = p₁; faces = p₃ })
          sheet_ok p₅ h =
              let c = placed_ok (judge closing_line text p₄) p₅ h in
              let ln = times_length n point_line text p₁ points_found.0 p₂ points_found.1 in
              let lm = times_length m face_line text p₃ faces_found.0 p₄ faces_found.1 in
              record {
                ps = points_found.0;
                fs = faces_found.0;
                after_points = p₂;
                after_faces = p₄;
                last = p₅;
                points = points_found.1;
                faces = faces_found.1;
                whole = to₄ ∙ ap (K₄ points_found.0 faces_found.0) c.1;
                counts = λ i. record { points = sym ln i; faces = sym lm i; corners = sym faces_found.2 i };
              }

pub judged_err : (text : List ℕ) (at : ℕ) (r : Result Layout TextFault) (e : TextFault) → r ≡ Err e → judge sheet text at ≡ Err e → Judged text at r
judged_err text at r e h g = subst (λ x. Judged text at x) (sym h) g
