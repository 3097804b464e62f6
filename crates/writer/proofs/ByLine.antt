-- Texts that are written line by line.
use Rattle.std.proofs.Common.{◌≡◌, ℕ, ◌+◌, ◌<◌, Bool, true, false, List, [], ◌++◌, map, length, get_or, codes, decimal, sym, ap, ◌∙◌, subst, append_assoc, arith}
use Rattle.std.specs.List.{range_with_len, flat_map}
use Rattle.std.proofs.lemmas.List.FromFn.{get_or-map-range_with_len}
use Rattle.std.proofs.lemmas.List.{append-nil, map_push, flat_map_more, length-map}
use Rattle.std.proofs.lemmas.List.Folds.{flat_map-map}
use Rattle.mesh.specs.Mesh.{Mesh, ring, turn}
use Rattle.mesh.specs.Count.{leads, vertices, faces, leaders}
use Rattle.sheet.specs.Form.{blank, line_end}
use Rattle.sheet.specs.Sheet.{point_text, face_text, sheet_text}
use Rattle.point.specs.declared.solid.SolidRecord.{SolidRecord}
use Rattle.writer.specs.declared.page.Page.{Page}
use Rattle.writer.specs.Pages.{HasRoom, Grows}
use Rattle.writer.specs.Points.{point_at}
use Rattle.writer.specs.Listing.{vertex_of, way, corners_from, sheet_of}
use Rattle.writer.proofs.Pages.{items_room}
use Rattle.writer.proofs.Turns.{Came}
use Rattle.mesh.proofs.Leaders.{leaders_none, leaders_yes, leaders_no, leaders_count}

-- the lines of some darts
abbrev pub lines : {B : Type 0} → (B → List ℕ) → (ℕ → B) → List ℕ → List ℕ
lines T g hs = flat_map (λ h. T (g h)) hs

module _ {B : Type 0} (T : B → List ℕ) (g : ℕ → B) (f : ℕ → ℕ) where
  -- the lines of the rings led by darts below k
  abbrev pub each : ℕ → List ℕ
  each k = flat_map T (map g (leaders f k))

  pub each_none : each 0 ≡ []
  each_none = ap (λ x. flat_map T (map g x)) (leaders_none f)

  pub each_yes : (h : ℕ) → leads f h ≡ true → each (h + 1) ≡ each h ++ T (g h)
  each_yes h e =
      ap (λ x. flat_map T (map g x)) (leaders_yes f h e)
      ∙ ap (flat_map T) (map_push g (leaders f h) h)
      ∙ sym (flat_map_more T [] (map g (leaders f h)) (g h))

  pub each_no : (h : ℕ) → leads f h ≡ false → each (h + 1) ≡ each h
  each_no h e = ap (λ x. flat_map T (map g x)) (leaders_no f h e)

  each_lines : (k : ℕ) → each k ≡ lines T g (leaders f k)
  each_lines k = flat_map-map T g (leaders f k)

  -- the line of the dart that comes has room where those before it were put
  pub each_room : {a b : Page} (n : ℕ) (hs : List ℕ) (h : ℕ) → Came (leaders f n) hs h → HasRoom (each n) a → Grows (lines T g hs) a b → HasRoom (T (g h)) b
  each_room {a} n hs h c r v =
      items_room (λ x. T (g x)) (leaders f n) hs h [] c (subst (λ w. HasRoom w a) (each_lines n ∙ sym (append-nil (lines T g (leaders f n)))) r) v

-- a corner, after a blank
abbrev pub corner_text : ℕ → List ℕ
corner_text v = blank ++ decimal v

-- a face's line, dart by dart
pub face_spelled : (m : Mesh) (backward : Bool) (h : ℕ) →
    face_text (corners_from m backward h) ≡ decimal (length (ring (way m backward) h)) ++ (flat_map (λ d. corner_text (vertex_of m d)) (ring (way m backward) h) ++ line_end)
face_spelled m backward h =
    let ds = ring (way m backward) h in
    ap (λ k. decimal k ++ (flat_map corner_text (map (vertex_of m) ds) ++ line_end)) (length-map ds (vertex_of m))
    ∙ ap (λ w. decimal (length ds) ++ (w ++ line_end)) (flat_map-map corner_text (vertex_of m) ds)

-- what the table of numbers says at a dart
pub number_at : (m : Mesh) (n d : ℕ) (numbers : List ℕ) (x : ℕ) → numbers ≡ map (vertex_of m) (range_with_len 0 n) → d < n → get_or numbers d x ≡ vertex_of m d
number_at m n d numbers x e b = ap (λ y. get_or y d x) e ∙ get_or-map-range_with_len (vertex_of m) 0 n d d x b (omega arith)

pub corners_long : (m : Mesh) (backward : Bool) (h : ℕ) → length (corners_from m backward h) ≡ length (ring (way m backward) h)
corners_long m backward h = length-map (ring (way m backward) h) (vertex_of m)

-- a line of a word and a number
abbrev pub heading : List ℕ → ℕ → List ℕ
heading w n = w ++ (decimal n ++ line_end)

-- the parts of a sheet's text
abbrev pub parts : ℕ → List ℕ → ℕ → List ℕ → List ℕ
parts v ps f fs = heading (codes "points ") v ++ (ps ++ (heading (codes "faces ") f ++ (fs ++ codes "end\n")))

parts_flat : (v : ℕ) (ps : List ℕ) (f : ℕ) (fs : List ℕ) → parts v ps f fs ≡
    codes "points " ++ (decimal v ++ (line_end ++ (ps ++ (codes "faces " ++ (decimal f ++ (line_end ++ (fs ++ codes "end\n")))))))
parts_flat v ps f fs = simp append_assoc

pub parts_are : (m : Mesh) (table : List SolidRecord) (backward : Bool) (v f : ℕ) → v ≡ vertices m → f ≡ faces m →
    parts v (each point_text (point_at table) (turn m) m.n) f (each face_text (corners_from m backward) m.next m.n) ≡ sheet_text (sheet_of m table backward)
parts_are m table backward v f a b =
    let ps = map (point_at table) (leaders (turn m) m.n) in
    let fs = map (corners_from m backward) (leaders m.next m.n) in
    let a' : v ≡ length ps = a ∙ sym (length-map (leaders (turn m) m.n) (point_at table) ∙ leaders_count (turn m) m.n) in
    let b' : f ≡ length fs = b ∙ sym (length-map (leaders m.next m.n) (corners_from m backward) ∙ leaders_count m.next m.n) in
    ap (λ x. parts x (flat_map point_text ps) f (flat_map face_text fs)) a'
    ∙ ap (λ x. parts (length ps) (flat_map point_text ps) x (flat_map face_text fs)) b'
    ∙ parts_flat (length ps) (flat_map point_text ps) (length fs) (flat_map face_text fs)
