-- What a second pass over a text leaves in the tables.
use Rattle.std.specs.Prelude.{◌≡◌, ℕ, List, ◌++◌, map, length, drop, Ok, Result}
use Rattle.sheet.specs.declared.fault.TextFault.{TextFault}
use Rattle.sheet.specs.declared.reader.Reader.{Reader}
use Rattle.sheet.specs.Form.{Form, judge, times}
use Rattle.sheet.specs.Sheet.{face_line, corners_of}
use Rattle.sheet.specs.Reader.{Passes}

-- a list in the first places of a table, the other places as they were
abbrev pub over : {A : Type 0} → List A → List A → List A
over xs was = xs ++ drop (length xs) was

-- the reader goes past the form as often as the table has places, and the table has what it says
abbrev pub Fills : {A : Type 0} → Form A → Reader → List A → Result (Unit {0}) TextFault → Reader → List A → Type 0
Fills {A} f before was r after is =
    Passes (times (length was) f) before r after × ((ps : List A) (q : ℕ) → judge (times (length was) f) before.text.now before.at ≡ Ok (ps, q) → is ≡ ps)

-- the text has the form at a place, and what it says is such
abbrev pub Says : {A : Type 0} → Form A → List ℕ → ℕ → (A → Type 0) → Type 0
Says {A} f text at P = (a : A) × (q : ℕ) × (judge f text at ≡ Ok (a, q)) × P a

-- where a face's line stands, the answer is its number of corners, the reader stands after it in the same text, and the table has the corners in its first places
abbrev pub FillsFace : List ℕ → ℕ → List ℕ → Result ℕ TextFault → Reader → List ℕ → Type 0
FillsFace text at was r after is = (vs : List ℕ) (q : ℕ) → judge face_line text at ≡ Ok (vs, q) → (r ≡ Ok (length vs)) × (after.text.now ≡ text) × (after.at ≡ q) × (is ≡ over vs was)

-- where a face's line stands as often as the table of lengths has places, that table has their lengths, and the other one their corners
abbrev pub FillsFaces : List ℕ → ℕ → List ℕ → List ℕ → Result (Unit {0}) TextFault → List ℕ → List ℕ → Type 0
FillsFaces text at wasL wasC r isL isC =
    (fs : List (List ℕ)) (q : ℕ) → judge (times (length wasL) face_line) text at ≡ Ok (fs, q) → (r ≡ Ok tt) × (isL ≡ map length fs) × (isC ≡ over (corners_of fs) wasC)
