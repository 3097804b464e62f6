use Rattle.std.proofs.Common.{◌≡◌, ◌-◌, ◌<◌, ◌≤◌, length}
use Rattle.mesh.specs.Rungs.{level}
use Rattle.skin.specs.Skins.{mesh}
use Rattle.skin.specs.Ways.{act}
use Rattle.skin.proofs.WayLaws.{climb}
use Rattle.skin.proofs.ladder.Ladder.go.Given as goal

-- from here the digits written so far lead up to the answer
abbrev pub invariant-down : goal.invariant-down
invariant-down g l =
    (l.i ≤ l.self.count) × (length l.digits ≡ 8) × (l.d < (level l.i l.self.bits (mesh g.S.Skin l.self.base)).n)
    × (climb l.digits l.i (l.self.count - l.i) (act (level l.i l.self.bits (mesh g.S.Skin l.self.base)) l.w l.d)
    ≡ act (level l.self.count l.self.bits (mesh g.S.Skin l.self.base)) l.initial.w l.h)

abbrev pub decreases-down : goal.decreases-down
decreases-down g l = l.i

-- and they lead up to it from each level
abbrev pub invariant-loop-k : goal.invariant-loop-k
invariant-loop-k g l =
    (l.i ≤ l.k) × (l.k ≤ l.self.count) × (climb l.digits l.k (l.self.count - l.k) l.x ≡ climb l.digits l.i (l.self.count - l.i) l.initial.x)
