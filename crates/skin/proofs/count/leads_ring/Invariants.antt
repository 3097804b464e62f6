use Rattle.std.proofs.Common.{◌≡◌, ◌-◌, ◌<◌, ◌≤◌, true}
use Rattle.mesh.specs.Mesh.{times, floor}
use Rattle.mesh.proofs.Rings.{orbit}
use Rattle.mesh.proofs.Rounds.{period}
use Rattle.skin.specs.Skins.{mesh}
use Rattle.skin.specs.Counts.{along}
use Rattle.skin.proofs.count.leads_ring.Given as goal

-- c is k steps from h, and no dart before it is smaller than h
abbrev pub invariant-loop-c : goal.invariant-loop-c
invariant-loop-c g l =
    let f = along l.ring (mesh g.S.Skin l.skin) in
    (l.h < g.S.Skin.n l.skin) × (l.c < g.S.Skin.n l.skin) × (1 ≤ l.k) × (l.k ≤ period f l.h)
    × (l.c ≡ times l.k f l.h) × (floor l.h (orbit l.k f l.h) ≡ true)

abbrev pub decreases-loop-c : goal.decreases-loop-c
decreases-loop-c g l = 64 - l.k
