-- What reading a sheet means.
use Rattle.std.proofs.Common.{◌≡◌, ℕ, ◌<◌, ◌≤◌, Bool, true, false, cond, ltb, List, ◌++◌, length, take, drop, Ok, Err, codes, Result, sym, refl, ap, ◌∙◌, subst, arith}
use lib.ListN.{length-map}
use Rattle.std.proofs.lemmas.Bool.{lt-ltb, le-ltb, ltb-false}
use Rattle.std.proofs.lemmas.List.{length-take}
use Rattle.sheet.specs.declared.fault.TextFault.{TextFault}
use Rattle.sheet.specs.declared.fault.TextFault.TheVariants as fault
use Rattle.point.specs.declared.solid.SolidRecord.{SolidRecord}
use Rattle.sheet.specs.declared.record.Sizes.{Sizes}
use Rattle.sheet.specs.declared.record.Layout.{Layout}
use Rattle.sheet.specs.Form.{Form, gives, token, judge, after, times, then, token_at, end_at, line_end}
use Rattle.sheet.specs.Sheet.{Sheet, sheet, sheet_text, Ranged, corner_count, point_line, corner, face_line, header, closing_line, closed, faced}
use Rattle.sheet.specs.Fill.{Says, FillsFaces}
use Rattle.sheet.specs.Read.{Tables, tables, sizes, sized, holding, room_in, if_room, stored, settled, read, Laid, SheetLaw, ReadsSheet}
use Rattle.sheet.proofs.Forms.{judge_after, never, ok_is}
use Rattle.sheet.proofs.Sound.{end_sound}
use Rattle.sheet.proofs.Complete.{parted_sheet}
use Rattle.sheet.proofs.Spellings.{sheet_only, sheet_every, Endless, endless_times, point_writes, corner_writes, face_writes}
use Rattle.sheet.proofs.Places.{err_is, Last, Fillable, fillable_after, fillable_times}
use Rattle.sheet.proofs.Texts.{accepted, taken, one_text, past_limit, off_form}

-- a form that was accepted after another was accepted where that ends
pub after_ok : {A B : Type 0} (f : Form A) (k : A → Form B) (text : List ℕ) (p : ℕ) (b : B) (q : ℕ) → judge (after f k) text p ≡ Ok (b, q) → (a : A) × (r : ℕ) × (judge (k a) text r ≡ Ok (b, q))
after_ok {A} {B} f k text p b q e = go (judge f text p) (sym (judge_after f k text p) ∙ e)
  where
    go : (x : Result (A × ℕ) TextFault) → then x (λ r. judge (k r.0) text r.1) ≡ Ok (b, q) → (a : A) × (r : ℕ) × (judge (k a) text r ≡ Ok (b, q))
    go (Ok r) e = (r.0, r.1, e)
    go (Err x) e = absurd (never _ _ e)

then_ok : {A B E : Type 0} (x : Result A E) (k : A → Result B E) (b : B) → then x k ≡ Ok b → (a : A) × (x ≡ Ok a) × (k a ≡ Ok b)
then_ok (Ok a) k b e = (a, refl, e)
then_ok (Err x) k b e = absurd (never _ _ e)

-- the last line ends the text
closing_ends : {B : Type 0} (v : B) (text : List ℕ) (p : ℕ) (b : B) (q : ℕ) → judge (after closing_line (λ _. gives v)) text p ≡ Ok (b, q) → length text ≤ q
closing_ends v text p b q e =
    let s = then_ok (token_at (codes "end") text p) _ (b, q) e in
    let t = then_ok (token_at line_end text s.0) _ (b, q) s.2 in
    let u = then_ok (end_at text t.0) _ (b, q) t.2 in
    let w = end_sound text t.0 u.0 u.1 in
    let z : u.0 ≡ q = ap (λ r. r.1) (ok_is _ _ u.2) in
    omega (arith, w.0, w.1, z)

pub sheet_ends : (text : List ℕ) (p : ℕ) (s : Sheet) (q : ℕ) → judge sheet text p ≡ Ok (s, q) → length text ≤ q
sheet_ends text p s q e =
    let a = after_ok (header (codes "points")) (λ n. after (times n point_line) faced) text p s q e in
    let b = after_ok (times a.0 point_line) faced text a.1 s q a.2 in
    let c = after_ok (header (codes "faces")) (λ m. after (times m face_line) (closed b.0)) text b.1 s q b.2 in
    let d = after_ok (times c.0 face_line) (closed b.0) text c.1 s q c.2 in
    closing_ends (record { points = b.0; faces = d.0 }) text d.1 s q d.2

-- the table that is too short, by the three tests
abbrev tests : Sizes → Bool → Bool → Bool → Result (Unit {0}) TextFault
tests n a b c = cond a (Err (fault.Short n.points)) (cond b (Err (fault.Short n.faces)) (cond c (Err (fault.Short n.corners)) (Ok tt)))

pub has_room : (t : Tables) (n : Sizes) → Ok tt ≡ room_in t n → (n.points ≤ length t.points) × (n.faces ≤ length t.lengths) × (n.corners ≤ length t.corners)
has_room t n h = go (ltb (length t.points) n.points) (ltb (length t.lengths) n.faces) (ltb (length t.corners) n.corners) refl refl refl (sym h)
  where
    go : (a b c : Bool) → ltb (length t.points) n.points ≡ a → ltb (length t.lengths) n.faces ≡ b → ltb (length t.corners) n.corners ≡ c → tests n a b c ≡ Ok tt → (n.points ≤ length t.points) × (n.faces ≤ length t.lengths) × (n.corners ≤ length t.corners)
    go true b c p q r h = absurd (never _ _ h)
    go false true c p q r h = absurd (never _ _ h)
    go false false true p q r h = absurd (never _ _ h)
    go false false false p q r h = (ltb-false _ _ p, ltb-false _ _ q, ltb-false _ _ r)

room_for : (t : Tables) (n : Sizes) → n.points ≤ length t.points → n.faces ≤ length t.lengths → n.corners ≤ length t.corners → room_in t n ≡ Ok tt
room_for t n p f c =
    let a = le-ltb (length t.points) n.points p in
    let b = le-ltb (length t.lengths) n.faces f in
    let d = le-ltb (length t.corners) n.corners c in
    λ i. tests n (a i) (b i) (d i)

short : (n : Sizes) (y : TextFault) (a b c : Bool) → tests n a b c ≡ Err y → (m : ℕ) × (y ≡ fault.Short m)
short n y true b c e = (n.points, sym (err_is _ _ e))
short n y false true c e = (n.faces, sym (err_is _ _ e))
short n y false false true e = (n.corners, sym (err_is _ _ e))
short n y false false false e = absurd (never _ _ (sym e))

-- in tables with room for it, a sheet is stored
pub stored_room : (s : Sheet) (t : Tables) → length s.points ≤ length t.points → length s.faces ≤ length t.lengths → corner_count s.faces ≤ length t.corners → stored s t ≡ (Ok (sizes s), holding s t)
stored_room s t p f c = ap (λ x. if_room x s t) (room_for t (sizes s) p f c)

pub stored_ok : (s : Sheet) (t : Tables) (n : Sizes) → (stored s t).0 ≡ Ok n → (n ≡ sizes s) × ((stored s t).1 ≡ holding s t)
stored_ok s t n e = go (room_in t (sizes s)) e
  where
    go : (x : Result (Unit {0}) TextFault) → (if_room x s t).0 ≡ Ok n → (n ≡ sizes s) × ((if_room x s t).1 ≡ holding s t)
    go (Ok u) e = (sym (ok_is _ _ e), refl)
    go (Err y) e = absurd (never _ _ e)

-- what declines, by the three tests, is a table
pub stored_short : (s : Sheet) (t : Tables) (y : TextFault) → (stored s t).0 ≡ Err y → (n : ℕ) × (y ≡ fault.Short n)
stored_short s t y e = go (room_in t (sizes s)) refl e
  where
    go : (x : Result (Unit {0}) TextFault) → room_in t (sizes s) ≡ x → (if_room x s t).0 ≡ Err y → (n : ℕ) × (y ≡ fault.Short n)
    go (Ok u) p e = absurd (never _ _ (sym e))
    go (Err z) p e = short (sizes s) y (ltb (length t.points) (length s.points)) (ltb (length t.lengths) (length s.faces)) (ltb (length t.corners) (corner_count s.faces)) (p ∙ ap (λ w. Err w) (err_is _ _ e))

-- from any place on a sheet can be completed
pub fillable_sheet : Fillable sheet
unfolding Fillable Last Endless
fillable_sheet = (
  refl,
  (
    refl,
    (
      omega arith,
      λ n. (
        refl,
        fillable_after (times n point_line) faced (endless_times n point_line point_writes.endless) (fillable_times n point_line point_writes.endless (λ x. (refl, λ y. (refl, λ z. (refl, tt))))) (λ ps. (
          refl,
          (
            refl,
            (
              omega arith,
              λ m. (
                refl,
                fillable_after (times m face_line) (closed ps) (endless_times m face_line face_writes.endless) (fillable_times m face_line face_writes.endless fillable_face) (λ fs. (refl, (refl, tt))),
              ),
            ),
          ),
        )),
      ),
    ),
  ),
)
  where
    fillable_face : Fillable face_line
    fillable_face = (omega arith, λ k. fillable_after (times k corner) (λ vs. token line_end (gives vs)) (endless_times k corner corner_writes.endless) (fillable_times k corner corner_writes.endless (refl, (omega arith, λ v. tt))) (λ vs. (refl, tt)))

law : (text : List ℕ) (at : ℕ) (t : Tables) → SheetLaw text at t (read text at t).0 (read text at t).1
law text at t = record {
  only = λ n e. go (judge sheet text at) refl n e;
  every = λ s r e. ap (λ x. settled x t) (taken sheet sheet_text Ranged (λ s bs t. sheet_only t) sheet_every parted_sheet fillable_sheet sheet_ends text at s r e);
  one = one_text sheet sheet_text Ranged (λ s bs t. sheet_only t) sheet_every parted_sheet fillable_sheet sheet_ends;
  limit = λ p e. past_limit sheet sheet_text Ranged (λ s bs t. sheet_only t) sheet_every parted_sheet fillable_sheet sheet_ends text at p (declines (judge sheet text at) (fault.Limit p) (λ n z. let y : ◌≡◌ {A = ℕ} 0 1 = cc z in absurd (omega arith)) e);
  form = λ p e. off_form sheet sheet_text Ranged (λ s bs t. sheet_only t) sheet_every parted_sheet fillable_sheet sheet_ends text at p (declines (judge sheet text at) (fault.Form p) (λ n z. let y : ◌≡◌ {A = ℕ} 0 1 = cc z in absurd (omega arith)) e);
}
  where
    go : (x : Result (Sheet × ℕ) TextFault) → judge sheet text at ≡ x → (n : Sizes) → (settled x t).0 ≡ Ok n → (s : Sheet) × Ranged s × (drop at text ≡ sheet_text s) × (n ≡ sizes s) × ((settled x t).1 ≡ holding s t)
    go (Ok r) j n e =
        let a = accepted sheet sheet_text Ranged (λ s bs t. sheet_only t) sheet_every parted_sheet fillable_sheet sheet_ends text at r.0 r.1 j in
        let o = stored_ok r.0 t n e in
        (r.0, a.1, a.0, o.0, o.1)
    go (Err x) j n e = absurd (never _ _ e)

    declines : (x : Result (Sheet × ℕ) TextFault) (y : TextFault) → ((n : ℕ) → y ≡ fault.Short n → ⊥) → (settled x t).0 ≡ Err y → x ≡ Err y
    declines (Err z) y n e = ap (λ z. Err z) (err_is _ _ e)
    declines (Ok s) y n e = let m = stored_short s.0 t y e in absurd (n m.0 m.1)

-- the outcome gives the law
pub told : (text : List ℕ) (at : ℕ) (t : Tables) (r : Result Sizes TextFault) (u : Tables) → (r, u) ≡ read text at t → ReadsSheet text at t r u
told text at t r u e = record { outcome = e; law = subst (λ x. SheetLaw text at t x.0 x.1) (sym e) (law text at t) }

pub read_err : (text : List ℕ) (at : ℕ) (t : Tables) (r : Result Sizes TextFault) (e : TextFault) → r ≡ Err e → judge sheet text at ≡ Err e → ReadsSheet text at t r t
read_err text at t r e h j = told text at t r t (ap (λ x. (x, t)) h ∙ sym (ap (λ x. settled x t) j))

pub read_as : (text : List ℕ) (at : ℕ) (t : Tables) (r s : Result Sizes TextFault) (u : Tables) → r ≡ s → ReadsSheet text at t s u → ReadsSheet text at t r u
read_as text at t r s u e o = subst (λ x. ReadsSheet text at t x u) (sym e) o

module _ (text : List ℕ) (at : ℕ) (t : Tables) (l : Layout) (d : Laid text at l) where
  abbrev of : Sheet
  of = record { points = d.ps; faces = d.fs }

  to_stored : read text at t ≡ stored of t
  to_stored = ap (λ x. settled x t) d.whole

  faces_is : l.sizes.faces ≡ length d.fs
  faces_is = ap (λ z. z.faces) d.counts

  corners_is : l.sizes.corners ≡ corner_count d.fs
  corners_is = ap (λ z. z.corners) d.counts

  by_room : (x : Result (Unit {0}) TextFault) → room_in t l.sizes ≡ x → read text at t ≡ if_room x of t
  by_room x p = to_stored ∙ ap (λ r. if_room r of t) (sym (ap (room_in t) d.counts) ∙ p)

  pub read_short : (e : TextFault) → Err e ≡ room_in t l.sizes → ReadsSheet text at t (Err e) t
  read_short e h = told text at t _ t (sym (by_room (Err e) (sym h)))

  pub read_short_points : length t.points < l.sizes.points → ReadsSheet text at t (Err (fault.Short l.sizes.points)) t
  read_short_points h =
      let a = lt-ltb (length t.points) l.sizes.points h in
      read_short (fault.Short l.sizes.points) (sym (λ i. tests l.sizes (a i) (ltb (length t.lengths) l.sizes.faces) (ltb (length t.corners) l.sizes.corners)))

  pub read_short_lengths : l.sizes.points ≤ length t.points → length t.lengths < l.sizes.faces → ReadsSheet text at t (Err (fault.Short l.sizes.faces)) t
  read_short_lengths g h =
      let a = le-ltb (length t.points) l.sizes.points g in
      let b = lt-ltb (length t.lengths) l.sizes.faces h in
      read_short (fault.Short l.sizes.faces) (sym (λ i. tests l.sizes (a i) (b i) (ltb (length t.corners) l.sizes.corners)))

  pub read_short_corners : l.sizes.points ≤ length t.points → l.sizes.faces ≤ length t.lengths → length t.corners < l.sizes.corners → ReadsSheet text at t (Err (fault.Short l.sizes.corners)) t
  read_short_corners g h k =
      let a = le-ltb (length t.points) l.sizes.points g in
      let b = le-ltb (length t.lengths) l.sizes.faces h in
      let c = lt-ltb (length t.corners) l.sizes.corners k in
      read_short (fault.Short l.sizes.corners) (sym (λ i. tests l.sizes (a i) (b i) (c i)))

  -- in tables with room for it, the sheet is what the places for its points and lengths take
  module _ (g : l.sizes.points ≤ length t.points) (h : l.sizes.faces ≤ length t.lengths) (k : l.sizes.corners ≤ length t.corners) where
    pub points_there : judge (times (length (take l.sizes.points t.points)) point_line) text l.points ≡ Ok (d.ps, d.after_points)
    points_there = let e : length (take l.sizes.points t.points) ≡ l.sizes.points = simp length-take (omega arith) in ap (λ n. judge (times n point_line) text l.points) e ∙ d.points

    pub faces_there : judge (times (length (take l.sizes.faces t.lengths)) face_line) text l.faces ≡ Ok (d.fs, d.after_faces)
    faces_there = let e : length (take l.sizes.faces t.lengths) ≡ l.sizes.faces = simp length-take (omega arith) in ap (λ n. judge (times n face_line) text l.faces) e ∙ d.faces

    pub faces_say : Says (times (length (take l.sizes.faces t.lengths)) face_line) text l.faces (λ fs. corner_count fs ≤ length t.corners)
    faces_say = (d.fs, d.after_faces, faces_there, omega (arith, corners_is))

    pub read_ok : (ps : List SolidRecord) (r : Result (Unit {0}) TextFault) (ls cs : List ℕ) → ps ≡ d.ps → FillsFaces text l.faces (take l.sizes.faces t.lengths) t.corners r ls cs
        → ReadsSheet text at t (Ok l.sizes) (tables (ps ++ drop l.sizes.points t.points) (ls ++ drop l.sizes.faces t.lengths) cs)
    read_ok ps r ls cs a fs =
        let b = fs d.fs d.after_faces faces_there in
        let f = faces_is ∙ sym (length-map d.fs length) in
        let p = ap (λ z. z.points) d.counts in
        told text at t _ _ ((λ i. (Ok (d.counts i), tables (a i ++ drop (p i) t.points) (b.1 i ++ drop (f i) t.lengths) (b.2 i)))
        ∙ sym (by_room (Ok tt) (room_for t l.sizes g h k)))

-- in tables of the sheet's sizes, the answer is that of judging
pub roomy : (text : List ℕ) (at : ℕ) (t : Tables) (r : Result Sizes TextFault) (u : Tables) → ReadsSheet text at t r u → (n : Sizes) → Ok n ≡ sized (judge sheet text at) → n.points ≤ length t.points → n.faces ≤ length t.lengths → n.corners ≤ length t.corners → r ≡ sized (judge sheet text at)
roomy text at t r u o n h p f c = ap (λ x. x.0) o.outcome ∙ go (judge sheet text at) h
  where
    go : (x : Result (Sheet × ℕ) TextFault) → Ok n ≡ sized x → (settled x t).0 ≡ sized x
    go (Err e) h = absurd (never _ _ (sym h))
    go (Ok s) h = ap (λ x. (if_room x s.0 t).0) (ap (room_in t) (sym (ok_is _ _ h)) ∙ room_for t n p f c)
