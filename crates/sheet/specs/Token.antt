-- What a text is cut into.
use Rattle.std.specs.Prelude.{◌≡◌, ℕ, ◌<◌, Bool, cond, not, ◌&&◌, ◌||◌, List, [], ◌∷◌, length, take, drop, ◌==◌, slice_index}
use Rattle.std.specs.Char.{is_ascii_digit}
use Rattle.std.specs.List.{prefix_len}
use Rattle.sheet.specs.declared.token.Token.{Token}
use Rattle.sheet.specs.declared.token.Kind.{Kind}
use Rattle.sheet.specs.declared.token.Kind.TheVariants.{Word, Number, Blank, LineEnd}

-- neither a blank nor a line end
abbrev pub plain : ℕ → Bool
plain b = not (b == 32) && not (b == 10)

-- the first token of a text: a run without blank or line end, or one blank, or one line end
abbrev pub front : List ℕ → List ℕ
front [] = []
front (b ∷ bs) = cond (plain b) (b ∷ take (prefix_len plain bs) bs) (b ∷ [])

-- a minus or a digit
abbrev pub numeric : ℕ → Bool
numeric b = b == 45 || is_ascii_digit b

-- by its first byte
abbrev pub kind : ℕ → Kind
kind b = cond (b == 32) Blank (cond (b == 10) LineEnd (cond (numeric b) Number Word))

-- t is the token that stands at a place of the text
pub record Cut (text : List ℕ) (at : ℕ) (t : Token) : Type 0 where
  pub here : t.place ≡ at
  pub whole : t.bytes.now ≡ front (drop at text)
  pub of_kind : t.kind ≡ kind (slice_index text at)
  pub some : at < length text
