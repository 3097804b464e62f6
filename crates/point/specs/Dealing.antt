-- Weights that keep their total: the mean takes the floor of each weight's mean, and the units still missing go
-- one each to the first weights whose division left a remainder.
use Rattle.std.specs.Prelude.{◌≡◌, ℕ, ◌-◌, ◌<◌, min, Bool, cond, ◌⊎◌, List, [], ◌∷◌, map, length, ℤ, pos, ◌+ℤ◌, ◌-ℤ◌, ◌*ℤ◌, ◌≤ℤ◌, ◌<ℤ◌, int_lt, unsigned_abs}
use Rattle.std.specs.Int.{int_div_euclid}
use Rattle.point.specs.Points.{coordinate, total}

-- how many handles a row has a weight for
abbrev pub handle_count : ℕ
handle_count = 4

-- the total of every row
abbrev pub row_whole : ℤ
row_whole = pos 65536

abbrev pub floor_of : ℕ → ℤ → ℤ
floor_of k t = int_div_euclid t (pos k)

-- the division of t by k leaves a remainder
abbrev pub leaves : ℕ → ℤ → Bool
leaves k t = int_lt (pos k *ℤ floor_of k t) t

-- what a weight gets of m missing units
abbrev pub gets : ℕ → ℕ → ℤ → ℕ
gets k m t = cond (leaves k t) (min m 1) 0

abbrev pub dealt : ℕ → ℕ → List ℤ → List ℤ
dealt k m [] = []
dealt k m (t ∷ ts) = (floor_of k t +ℤ pos (gets k m t)) ∷ dealt k (m - gets k m t) ts

abbrev pub missing : ℕ → List ℤ → ℕ
missing k ts = unsigned_abs (row_whole -ℤ total (map (floor_of k) ts))

-- w is t / k rounded down
abbrev pub Down : ℕ → ℤ → ℤ → Type 0
Down k t w = ((pos k *ℤ w) ≤ℤ t) × (t <ℤ (pos k *ℤ (w +ℤ pos 1)))

-- t / k is not whole, and w is one more than its floor
abbrev pub Raised : ℕ → ℤ → ℤ → Type 0
Raised k t w = ((pos k *ℤ (w -ℤ pos 1)) <ℤ t) × (t <ℤ (pos k *ℤ w))

-- What the weights ws of the mean of k rows with the totals ts are.
pub record Shares (k : ℕ) (ts ws : List ℤ) : Type 0 where
  -- the weights total the fixed total
  pub whole : total ws ≡ row_whole
  -- each is the floor of its mean, or one more where the division left a remainder
  pub each : (i : ℕ) → i < length ts → Down k (coordinate ts i) (coordinate ws i) ⊎ Raised k (coordinate ts i) (coordinate ws i)
  -- the ones more go to the first of these: before a weight that got one, none is below its mean
  pub first : (i j : ℕ) → j < i → i < length ts → Raised k (coordinate ts i) (coordinate ws i) → coordinate ts j ≤ℤ (pos k *ℤ coordinate ws j)
