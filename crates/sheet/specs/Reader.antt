-- What reading at a place of a text does.
use Rattle.std.specs.Prelude.{◌≡◌, ℕ, List, Ok, Err, Result}
use Rattle.sheet.specs.declared.fault.TextFault.{TextFault}
use Rattle.sheet.specs.declared.reader.Reader.{Reader}
use Rattle.sheet.specs.Form.{Form, judge, place_of, viewed}

-- an answer with the place after it, where there is one
abbrev pub located : {A E : Type 0} → Result A E → ℕ → Result (A × ℕ) E
located (Ok a) q = Ok (a, q)
located (Err e) q = Err e

-- that place alone
abbrev pub moved : {A E : Type 0} → Result A E → ℕ → Result ℕ E
moved (Ok a) q = Ok q
moved (Err e) q = Err e

-- the answer is what a reading of texts says, and the reader stands after it in the same text
abbrev pub Answers : {A : Type 0} → (List ℕ → ℕ → Result (A × ℕ) TextFault) → Reader → Result A TextFault → Reader → Type 0
Answers told before r after = (after.text.now ≡ before.text.now) × (located r after.at ≡ told before.text.now before.at)

-- the same where there is only the place
abbrev pub Moves : (List ℕ → ℕ → Result ℕ TextFault) → Reader → Result (Unit {0}) TextFault → Reader → Type 0
Moves told before r after = (after.text.now ≡ before.text.now) × (moved r after.at ≡ told before.text.now before.at)

-- the answer is what the form says
abbrev pub Reads : {A : Type 0} → Form A → Reader → Result A TextFault → Reader → Type 0
Reads f = Answers (judge f)

-- the answer is a figure of what the form says
abbrev pub Views : {A B : Type 0} → (A → B) → Form A → Reader → Result B TextFault → Reader → Type 0
Views g f = Answers (λ text at. viewed g (judge f text at))

-- the answer is only whether the form stands there
abbrev pub Passes : {A : Type 0} → Form A → Reader → Result (Unit {0}) TextFault → Reader → Type 0
Passes f = Moves (λ text at. place_of (judge f text at))
