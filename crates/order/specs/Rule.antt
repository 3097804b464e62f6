-- A rule that leaves one outcome.
use Rattle.std.specs.Prelude.{◌≡◌}

-- r is an outcome that the rule P allows, and there is no other
pub record TheOne {A : Type 0} (P : A → Type 0) (r : A) : Type 0 where
  pub holds : P r
  pub only : (q : A) → P q → q ≡ r
