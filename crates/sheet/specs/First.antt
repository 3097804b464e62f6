-- The first wrong token of a text, among texts of a kind: each thing that is in range has one text.
use Rattle.std.specs.Prelude.{◌≡◌, ℕ, ◌+◌, List, ◌++◌, length, drop, ◌≢◌}
use Rattle.sheet.specs.Number.{Alike}
use Rattle.sheet.specs.Token.{front}

-- the text should be one of these from a place on, and the token at p is the first wrong one
pub record FirstWrong {A : Type 0} (text_of : A → List ℕ) (In : A → Type 0) (text : List ℕ) (at p : ℕ) : Type 0 where
  -- what stands before it
  pub before : List ℕ
  pub cut : drop at text ≡ before ++ drop p text
  pub far : p ≡ at + length before
  -- the text of something in range begins so
  pub begun : (a : A) × (rest : List ℕ) × In a × (text_of a ≡ before ++ rest)
  -- and none goes on with that token, or ends there if the text does
  pub wrong : (a : A) (rest : List ℕ) → In a → text_of a ≡ before ++ rest → front rest ≢ front (drop p text)

-- it is a number, where the text of something in range has a number with the same sign
abbrev pub PastLimit : {A : Type 0} → (A → List ℕ) → (A → Type 0) → List ℕ → ℕ → ℕ → Type 0
PastLimit {A} text_of In text at p = (w : FirstWrong text_of In text at p) × (a : A) × (rest : List ℕ) × In a × (text_of a ≡ w.before ++ rest) × Alike (front rest) (front (drop p text))

-- or it is not
abbrev pub OffForm : {A : Type 0} → (A → List ℕ) → (A → Type 0) → List ℕ → ℕ → ℕ → Type 0
OffForm {A} text_of In text at p = (w : FirstWrong text_of In text at p) × ((a : A) (rest : List ℕ) → In a → text_of a ≡ w.before ++ rest → Alike (front rest) (front (drop p text)) → ⊥)
