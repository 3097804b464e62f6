-- The form of a text: which tokens it is made of, and what they say.
use Rattle.std.specs.Prelude.{ℕ, zero, suc, ◌+◌, cond, List, [], ◌∷◌, length, drop, ℤ, Ok, Err, Result, nat_le}
use Rattle.std.specs.Str.{bytes_eq}
use Rattle.sheet.specs.declared.fault.TextFault.{TextFault}
use Rattle.sheet.specs.declared.fault.TextFault.TheVariants as fault
use Rattle.sheet.specs.Number.{natural_of, coordinate_of}
use Rattle.sheet.specs.Token.{front}

abbrev pub then : {A B E : Type 0} → Result A E → (A → Result B E) → Result B E
then (Ok a) f = f a
then (Err e) f = Err e

-- the token at a place is w, and the place after it
abbrev pub token_at : List ℕ → List ℕ → ℕ → Result ℕ TextFault
token_at w text p = cond (bytes_eq w (front (drop p text))) (Ok (p + length w)) (Err (fault.Form p))

-- the number at a place, and the place after it
abbrev pub placed : {A : Type 0} → ℕ → A → Result (A × ℕ) TextFault
placed q a = Ok (a, q)

abbrev pub natural_at : ℕ → ℕ → List ℕ → ℕ → Result (ℕ × ℕ) TextFault
natural_at low high text p = then (natural_of low high p (front (drop p text))) (placed (p + length (front (drop p text))))

abbrev pub coordinate_at : List ℕ → ℕ → Result (ℤ × ℕ) TextFault
coordinate_at text p = then (coordinate_of p (front (drop p text))) (placed (p + length (front (drop p text))))

abbrev pub end_at : List ℕ → ℕ → Result ℕ TextFault
end_at text p = cond (nat_le (length text) p) (Ok p) (Err (fault.Form p))

-- a form whose text says a value of A
pub data Form (A : Type 0) : Type 0 where
  -- nothing more
  gives : A → Form A
  -- this token, and then a form
  token : List ℕ → Form A → Form A
  -- a number without minus, from low to high, and then a form that may depend on it
  natural : ℕ → ℕ → (ℕ → Form A) → Form A
  -- a coordinate
  coordinate : (ℤ → Form A) → Form A
  -- the end of the text
  end : Form A → Form A

-- the first wrong token decides: what the text says from a place on, and the place after that
abbrev pub judge : {A : Type 0} → Form A → List ℕ → ℕ → Result (A × ℕ) TextFault
judge (gives a) text p = Ok (a, p)
judge (token w f) text p = then (token_at w text p) (λ q. judge f text q)
judge (natural low high k) text p = then (natural_at low high text p) (λ r. judge (k r.0) text r.1)
judge (coordinate k) text p = then (coordinate_at text p) (λ r. judge (k r.0) text r.1)
judge (end f) text p = then (end_at text p) (λ q. judge f text q)

-- the place alone
abbrev pub place_of : {A E : Type 0} → Result (A × ℕ) E → Result ℕ E
place_of (Ok r) = Ok r.1
place_of (Err e) = Err e

-- a figure of what is said, and the place
abbrev pub viewed : {A B E : Type 0} → (A → B) → Result (A × ℕ) E → Result (B × ℕ) E
viewed g (Ok r) = Ok (g r.0, r.1)
viewed g (Err e) = Err e

-- one form after another
abbrev pub after : {A B : Type 0} → Form A → (A → Form B) → Form B
after (gives a) k = k a
after (token w f) k = token w (after f k)
after (natural low high f) k = natural low high (λ n. after (f n) k)
after (coordinate f) k = coordinate (λ z. after (f z) k)
after (end f) k = end (after f k)

-- n times a form
abbrev pub times : {A : Type 0} → ℕ → Form A → Form (List A)
times zero f = gives []
times (suc n) f = after f (λ a. after (times n f) (λ rest. gives (a ∷ rest)))

abbrev pub blank : List ℕ
blank = 32 ∷ []

abbrev pub line_end : List ℕ
line_end = 10 ∷ []
