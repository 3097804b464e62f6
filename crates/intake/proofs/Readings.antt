-- A sheet that was read into tables of its sizes, as closing takes it.
use Rattle.std.proofs.Common.{◌≡◌, ℕ, ◌≤◌, min, List, ◌++◌, map, length, Ok, Err, Result, sym, refl, ap, ◌∙◌, subst, append-nil, arith}
use lib.ListN.{length-map}
use Rattle.std.proofs.lemmas.List.{drop_all}
use Rattle.mesh.specs.Mesh.{Same}
use Rattle.skin.specs.declared.count.Counts.{Counts}
use Rattle.skin.specs.Meaning.{meaning}
use Rattle.skin.proofs.Counted.{counting_same}
use Rattle.skin.specs.declared.table.TableSkin.{TableSkin}
use Rattle.sheet.specs.declared.fault.TextFault.{TextFault}
use Rattle.sheet.specs.declared.record.Sizes.{Sizes}
use Rattle.sheet.specs.Form.{judge}
use Rattle.sheet.specs.Sheet as text
use Rattle.sheet.specs.Fill.{over}
use Rattle.sheet.specs.Read.{Tables, sizes, sized, settled, holding, ReadsSheet}
use Rattle.sheet.proofs.Forms.{never, ok_is}
use Rattle.sheet.proofs.Readings.{stored_room}
use Rattle.closing.specs.declared.fault.SkinFault.{SkinFault}
use Rattle.closing.specs.Sheet.{Sheet, sheet, mesh}
use Rattle.closing.specs.Drawing.{drawn}
use Rattle.closing.specs.Causes.{places}
use Rattle.closing.specs.Held.{Held, counted as sized_by}
use Rattle.closing.specs.Verdict.{verdict}
use Rattle.intake.specs.Figures.{figure_of}
use Rattle.intake.specs.Surveys.{ample, counted, closed_to, survey_of, Holding}

-- what was judged to have sizes is a sheet of these sizes
pub judged : (n : Sizes) (x : Result (text.Sheet × ℕ) TextFault) → sized x ≡ Ok n → (s : text.Sheet × ℕ) × (x ≡ Ok s) × (n ≡ sizes s.0)
judged n (Ok s) e = (s, refl, sym (ok_is _ _ e))
judged n (Err x) e = absurd (never _ _ e)

-- a list over a table of its length is the list
over_all : {A : Type 0} (xs was : List A) → length was ≡ length xs → over xs was ≡ xs
over_all xs was e = ap (λ d. xs ++ d) (drop_all (length xs) was (omega arith)) ∙ append-nil xs

module _ (bytes : List ℕ) (n : Sizes) (t u : Tables) (r : Result Sizes TextFault)
    (h : sized (judge text.sheet bytes 0) ≡ Ok n) (o : ReadsSheet bytes 0 t r u)
    (p : length t.points ≡ n.points) (f : length t.lengths ≡ n.faces) (c : length t.corners ≡ n.corners) where
  abbrev found : (s : text.Sheet × ℕ) × (judge text.sheet bytes 0 ≡ Ok s) × (n ≡ sizes s.0)
  found = judged n (judge text.sheet bytes 0) h

  abbrev pub read : text.Sheet
  read = found.0.0

  sizes_are : n ≡ sizes read
  sizes_are = found.2

  outcome : ◌≡◌ {A = Result Sizes TextFault × Tables} (r, u) (Ok (sizes read), holding read t)
  outcome =
      o.outcome ∙ ap (λ x. settled x t) found.1
      ∙ stored_room read t (omega (arith, p, ap (λ z. z.points) sizes_are)) (omega (arith, f, ap (λ z. z.faces) sizes_are)) (omega (arith, c, ap (λ z. z.corners) sizes_are))

  pub answers : r ≡ Ok n
  answers = ap (λ x. x.0) outcome ∙ ap (λ z. Ok z) (sym sizes_are)

  lengths_are : u.lengths ≡ map length read.faces
  lengths_are = ap (λ x. x.1.lengths) outcome ∙ over_all (map length read.faces) t.lengths (f ∙ ap (λ z. z.faces) sizes_are ∙ sym (length-map read.faces length))

  corners_are : u.corners ≡ text.corners_of read.faces
  corners_are = ap (λ x. x.1.corners) outcome ∙ over_all (text.corners_of read.faces) t.corners (c ∙ ap (λ z. z.corners) sizes_are)

  -- the sheet that is closed
  pub drawn_so : sheet n.points u.lengths u.corners ≡ drawn read
  drawn_so = λ i. sheet (sizes_are i).points (lengths_are i) (corners_are i)

  -- few points
  pub few : n.points ≤ 1048576
  few = let l = o.law.only n answers in omega (arith, l.1.few_points, ap (λ z. z.points) l.3)

  pub surveyed : survey_of bytes ≡ counted (drawn read) (verdict (drawn read) (ample (drawn read)))
  surveyed = ap closed_to found.1

  pub ample_so : (a b d : ℕ) → a ≡ min n.corners 1048576 → b ≡ min n.corners 1048576 → d ≡ min n.corners 1048576 → record { corners = length u.corners; next = a; prev = b; twin = d } ≡ ample (drawn read)
  ample_so a b d x y z =
      let k = ap (λ z. min z.corners 1048576) sizes_are in
      λ i. record { corners = length (corners_are i); next = (x ∙ k) i; prev = (y ∙ k) i; twin = (z ∙ k) i }

  -- what closing it answers
  pub holds : (x y z : List ℕ) → length x ≡ min n.corners 1048576 → length y ≡ min n.corners 1048576 → length z ≡ min n.corners 1048576
      → (q : Result TableSkin SkinFault)
      → Held (sheet n.points u.lengths u.corners) (places (sheet n.points u.lengths u.corners) x y z) q
      → Holding bytes q
  holds x y z a b d q k = go q refl
    where
      answer : sized_by q ≡ verdict (drawn read) (ample (drawn read))
      answer = k.answer ∙ (λ i. verdict (drawn_so i) (ample_so (length x) (length y) (length z) a b d i))

      go : (w : Result TableSkin SkinFault) → q ≡ w → Holding bytes w
      go (Ok skin) e =
          let same = subst (λ (v : Sheet). Same (meaning skin) (mesh v)) drawn_so (k.same skin e) in
          surveyed ∙ ap (counted (drawn read)) (sym answer ∙ ap sized_by e)
          ∙ ap (λ (v : Counts). Ok (record { darts = (meaning skin).n; counts = v; figure = figure_of v })) (sym (counting_same (meaning skin) (mesh (drawn read)) (k.skin skin e).lawful same))
      go (Err f) e = surveyed ∙ ap (counted (drawn read)) (sym answer ∙ ap sized_by e)
