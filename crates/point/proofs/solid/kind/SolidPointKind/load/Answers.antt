-- A record means the point of its numbers, or the origin.
use Rattle.std.proofs.Common.{◌≡◌, ℤ, Ok, Err, Result, sym, refl, ◌∙◌, w32, to_z, of_z, rules}
use Rattle.std.specs.Result.{result_unwrap_or}
use Rattle.std.proofs.lemmas.Int.{to_z-of_z}
use Rattle.point.specs.declared.fault.PointFault.{PointFault}
use Rattle.point.specs.declared.solid.SolidPoint.{SolidPoint}
use Rattle.point.specs.Made.{range_fault, Makes}
use Rattle.point.specs.Solids.{three, numbers_of, origin, point_at}
use Rattle.point.specs.SolidPoints.{point_at_lem, no_point, solid_same}
use Rattle.point.proofs.solid.kind.SolidPointKind.load.Goals as goal

loaded : (x y z : ℤ) (r : Result SolidPoint PointFault) (d : SolidPoint) → d ≡ origin → Makes numbers_of (range_fault 0 (three x y z)) (three x y z) r → result_unwrap_or r d ≡ point_at x y z
loaded x y z (Ok p) d e m = point_at_lem p m.1
loaded x y z (Err f) d e m = e ∙ sym (no_point x y z f m)

pub returns : goal.returns
returns c =
    let v = c.args.stored.now in
    let x = to_z-of_z w32 v.x (search rules) in
    let y = to_z-of_z w32 v.y (search rules) in
    let z = to_z-of_z w32 v.z (search rules) in
    c.unwrap_or.ensures ∙ loaded (to_z w32 (of_z w32 v.x)) (to_z w32 (of_z w32 v.y)) (to_z w32 (of_z w32 v.z)) c.new.result _ (solid_same _ origin refl refl refl) c.new.ensures ∙ (λ j. point_at (x j) (y j) (z j))
