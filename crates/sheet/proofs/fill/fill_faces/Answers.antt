use Rattle.std.proofs.Common.{◌+◌, ◌-◌, length, set, sym, refl, ap, ◌∙◌, arith}
use borrow.Rule.Slice.PartMut.{put_mid}
use Rattle.sheet.specs.Sheet.{corner_count}
use Rattle.sheet.proofs.Forms.{ok_is}
use Rattle.sheet.proofs.Fillings.{FillingFaces, next_face, face_there, face_text, faces_more, faces_done, filled_within}
use Rattle.sheet.proofs.fill.fill_faces.Goals as goal

pub fill_face-requires : goal.fill_face-requires
fill_face-requires c =
    rw c.loop-sides.invariant.0 (next_face c.args.reader.now.text.now c.args.reader.now.at (length c.args.lengths.now) c.loop-sides.sides-index c.loop-sides.reader.at c.loop-sides.filled c.args.lengths.now c.args.corners.now c.loop-sides.lengths c.loop-sides.corners c.loop-sides.invariant.1
    c.requires.0 c.requires.1 c.requires.2 (omega arith) c.requires.3)

pub returns-in_err-sides : goal.returns-in_err-sides
returns-in_err-sides c fs q e =
    absurd (face_there c.args.reader.now.text.now c.args.reader.now.at (length c.args.lengths.now) c.loop-sides.sides-index c.loop-sides.reader.at c.loop-sides.filled c.args.lengths.now c.args.corners.now c.loop-sides.lengths c.loop-sides.corners c.loop-sides.invariant.1
    c.requires.0 c.requires.1 c.requires.2 (omega arith) c.requires.3 (omega arith) _ c.fill_face.new.reader _ (rw c.loop-sides.invariant.0 at c.fill_face.ensures) _ c.in_err-sides.was)

pub loop-sides-preserved : goal.loop-sides-preserved
loop-sides-preserved c =
    let text = c.args.reader.now.text.now in
    let at = c.args.reader.now.at in
    let i = c.loop-sides.sides-index in
    let filled = c.loop-sides.filled in
    let lengths = c.loop-sides.lengths in
    let corners = c.loop-sides.corners in
    let k = c.in_ok-sides.field-0 in
    let wrote = rw c.loop-sides.invariant.0 at c.fill_face.ensures in
    let more : FillingFaces text at (length c.args.lengths.now) (i + 1) c.fill_face.new.reader.at (filled + k) c.args.lengths.now c.args.corners.now (set lengths i k) (put_mid filled (length corners - filled) corners c.fill_face.new.corners) =
    λ fs q e.
    let o = ap (λ r. corner_count r.0) (ok_is _ _ (sym c.requires.2 ∙ e)) in
    faces_more text at (length c.args.lengths.now) i c.loop-sides.reader.at filled c.args.lengths.now c.args.corners.now lengths corners c.loop-sides.invariant.1
    fs q e (omega arith) (omega (arith, o, c.requires.3)) (omega arith) _ c.fill_face.new.reader _ wrote _ c.in_ok-sides.was in (
      face_text text at (length c.args.lengths.now) i c.loop-sides.reader.at filled c.args.lengths.now c.args.corners.now lengths corners c.loop-sides.invariant.1
          c.requires.0 c.requires.1 c.requires.2 (omega arith) c.requires.3 (omega arith) _ c.fill_face.new.reader _ wrote,
      more,
      filled_within _ _ _ _ _ _ _ _ _ _ more c.requires.0 c.requires.1 c.requires.2 c.requires.3,
    )

pub returns : goal.returns
returns c fs q e =
    let d = faces_done c.args.reader.now.text.now c.args.reader.now.at (length c.args.lengths.now) c.loop-sides.sides-index c.loop-sides.reader.at c.loop-sides.filled c.args.lengths.now c.args.corners.now c.loop-sides.lengths c.loop-sides.corners c.loop-sides.invariant.1
    fs q e (omega arith) (omega arith) (omega arith) in
    (refl, d.0, d.1)
