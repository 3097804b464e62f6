-- The texts of a form, and which forms can be read back from their texts.
use Rattle.std.proofs.Common.{◌≡◌, ℕ, ◌+◌, ◌-◌, ◌^◌, ◌<◌, ◌≤◌, true, false, ◌⊎◌, List, [], ◌∷◌, ◌++◌, length, drop, ℤ, decimal}
use Rattle.std.specs.Fmt.{signed_decimal}
use Rattle.std.specs.List.{AllByRecursion}
use Rattle.point.specs.Range.{InRange}
use Rattle.sheet.specs.Token.{plain}
use Rattle.sheet.specs.Form.{Form, gives, token, natural, coordinate, end}

-- what a form's texts are: the tokens, with decimal numerals of numbers in their range
pub data Spelled {A : Type 0} : Form A → A → List ℕ → Type 0 where
  s_gives : {a : A} → Spelled (gives a) a []
  s_token : {w : List ℕ} {f : Form A} {a : A} {bs : List ℕ} → Spelled f a bs → Spelled (token w f) a (w ++ bs)
  s_natural : {low high : ℕ} {k : ℕ → Form A} {a : A} {bs : List ℕ} (n : ℕ) → low ≤ n → n ≤ high → Spelled (k n) a bs → Spelled (natural low high k) a (decimal n ++ bs)
  s_coordinate : {k : ℤ → Form A} {a : A} {bs : List ℕ} (z : ℤ) → InRange z → Spelled (k z) a bs → Spelled (coordinate k) a (signed_decimal z ++ bs)
  s_end : {f : Form A} {a : A} → Spelled f a [] → Spelled (end f) a []

-- each limit of the form is one that a u32 holds
abbrev pub Small : {A : Type 0} → Form A → Type 0
Small (gives a) = Unit {0}
Small (token w f) = Small f
Small (natural low high k) = (high < 2 ^ 32 - 1) × ((n : ℕ) → Small (k n))
Small (coordinate k) = (z : ℤ) → Small (k z)
Small (end f) = Small f

-- from p to q the text is a spelling of the form that says a
pub record Reads {A : Type 0} (f : Form A) (a : A) (text : List ℕ) (p q : ℕ) : Type 0 where
  pub bs : List ℕ
  pub spelled : Spelled f a bs
  pub part : drop p text ≡ bs ++ drop q text
  pub long : q ≡ p + length bs

-- the form begins with a blank or a line end, or wants the end of the text
abbrev pub Breaks : {A : Type 0} → Form A → Type 0
Breaks (gives a) = ⊥
Breaks (token [] f) = ⊥
Breaks (token (b ∷ w) f) = plain b ≡ false
Breaks (natural low high k) = ⊥
Breaks (coordinate k) = ⊥
Breaks (end f) = Unit {0}

-- one blank or one line end
abbrev pub Mark : List ℕ → Type 0
Mark w = (b : ℕ) × (w ≡ b ∷ []) × (plain b ≡ false)

-- a run of other bytes
abbrev pub Run : List ℕ → Type 0
Run w = (0 < length w) × AllByRecursion (λ b. plain b ≡ true) w

-- no two runs of the form stand side by side
abbrev pub Parted : {A : Type 0} → Form A → Type 0
Parted (gives a) = Unit {0}
Parted (token w f) = (Mark w ⊎ (Run w × Breaks f)) × Parted f
Parted (natural low high k) = (high < 2 ^ 32 - 1) × ((n : ℕ) → Breaks (k n) × Parted (k n))
Parted (coordinate k) = (z : ℤ) → Breaks (k z) × Parted (k z)
Parted (end f) = Parted f
