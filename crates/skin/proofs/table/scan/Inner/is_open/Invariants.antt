use Rattle.std.proofs.Common.{◌≡◌, ℕ, ◌<◌}
use Rattle.mesh.specs.Mesh.{times}
use Rattle.skin.specs.Counts.{along}
use Rattle.skin.specs.Drawn.{drawn}
use Rattle.skin.proofs.table.scan.Inner.is_open.Given as goal

-- c is k steps from h, and no step before came back
abbrev pub invariant-loop-k : goal.invariant-loop-k
invariant-loop-k l =
    let f = along l.ring (drawn l.self.columns) in
    (l.c < l.self.columns.n) × (l.c ≡ times l._k f l.h) × ((i : ℕ) → 0 < i → i < l._k → times i f l.h ≡ l.h → ⊥)
