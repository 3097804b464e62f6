use Rattle.std.proofs.Common.{◌≡◌, None, rules}
use Rattle.mesh.specs.Smallest.{smallest}
use Rattle.mesh.specs.Tables.{outside}
use Rattle.mesh.proofs.Judged.{inside}
use Rattle.skin.specs.Drawn.{drawn}
use Rattle.skin.proofs.table.columns.Columns.first_fault.Goals as goal

pub invariant_of-inner : goal.invariant_of-inner
invariant_of-inner c =
    let m = drawn c.args.self.now in
    let e : smallest m.n (outside m) ≡ None = search rules in
    record { inside = λ h l. let i = inside m e h l in (i.next, i.prev, i.twin) }
