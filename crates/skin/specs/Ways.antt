-- The six ways to go on from a dart, and how a way at a Quad or a Dual is a way below it.
use Rattle.std.specs.Prelude.{ℕ, Bool, true, false, cond}
use Rattle.mesh.specs.Mesh.{Mesh, turn, corner}
use Rattle.skin.specs.declared.ladder.Way.{Way}
use Rattle.skin.specs.declared.ladder.Way.TheVariants.{Stay, Next, Prev, Twin, Turn, Unturn}

-- the dart that a way leads to
abbrev pub act : Mesh → Way → ℕ → ℕ
act m Stay h = h
act m Next h = m.next h
act m Prev h = m.prev h
act m Twin h = m.twin h
act m Turn h = turn m h
act m Unturn h = m.twin (m.prev h)

-- the way leads nowhere else
abbrev pub way_stays : Way → Bool
way_stays Stay = true
way_stays Next = false
way_stays Prev = false
way_stays Twin = false
way_stays Turn = false
way_stays Unturn = false

-- a way over a Dual is this way below it
abbrev pub way_across : Way → Way
way_across Stay = Stay
way_across Next = Turn
way_across Prev = Unturn
way_across Twin = Twin
way_across Turn = Next
way_across Unturn = Prev

-- a way from dart 4h + j of a Quad is this way from dart h below it
abbrev pub way_below : Way → ℕ → Way
way_below Stay j = Stay
way_below Next j = Stay
way_below Prev j = Stay
way_below Twin j = corner j Turn Next Prev Unturn
way_below Turn j = corner j Turn Next Prev Unturn
way_below Unturn j = corner j Unturn Turn Next Prev

-- and leads to this of the four darts
abbrev pub way_digit : Way → ℕ → ℕ
way_digit Stay j = corner j 0 1 2 3
way_digit Next j = corner j 1 2 3 0
way_digit Prev j = corner j 3 0 1 2
way_digit Twin j = corner j 3 2 1 0
way_digit Turn j = corner j 0 3 2 1
way_digit Unturn j = corner j 0 3 2 1

-- a way over the Dual where the bit is 1
abbrev pub way_under : Bool → Way → Way
way_under b w = cond b (way_across w) w
