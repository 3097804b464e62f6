use Rattle.std.proofs.Common.{◌≡◌, ◌++◌, length, drop, take, Ok, sym, ap, ◌∙◌, arith}
use Rattle.std.proofs.lemmas.List.{length-take}
use Rattle.sheet.specs.Form.{token_at, line_end, place_of}
use Rattle.sheet.proofs.Forms.{never, ok_is}
use Rattle.sheet.proofs.Sheets.{face_room, face_split}
use Rattle.sheet.proofs.fill.fill_face.Goals as goal

pub slice_bounds-fill-end : goal.slice_bounds-fill-end
slice_bounds-fill-end c = face_room c.args.reader.now.text.now c.args.reader.now.at c.in_ok-k.k c.natural.new.self.at (sym c.in_ok-k.ensures.1) _ c.requires

pub slice_bounds-fill-end-2 : goal.slice_bounds-fill-end-2
slice_bounds-fill-end-2 c =
    let r = face_room c.args.reader.now.text.now c.args.reader.now.at c.in_ok-k.k c.natural.new.self.at (sym c.in_ok-k.ensures.1) _ c.requires in
    simp length-take (omega arith)

pub returns-in_err-fill : goal.returns-in_err-fill
returns-in_err-fill c vs q e =
    let s = face_split c.args.reader.now.text.now c.args.reader.now.at c.in_ok-k.k c.natural.new.self.at (sym c.in_ok-k.ensures.1) vs q e in
    let r = face_room c.args.reader.now.text.now c.args.reader.now.at c.in_ok-k.k c.natural.new.self.at (sym c.in_ok-k.ensures.1) _ c.requires in
    let l : length (take c.in_ok-k.k c.args.corners.now) ≡ c.in_ok-k.k = simp length-take (omega arith) in
    let f = rw (l, c.in_ok-k.ensures.0) at c.in_err-fill.ensures.0.1 in
    absurd (never _ _ (f ∙ ap place_of s.1))

pub returns-in_err-expect : goal.returns-in_err-expect
returns-in_err-expect c vs q e =
    let s = face_split c.args.reader.now.text.now c.args.reader.now.at c.in_ok-k.k c.natural.new.self.at (sym c.in_ok-k.ensures.1) vs q e in
    let r = face_room c.args.reader.now.text.now c.args.reader.now.at c.in_ok-k.k c.natural.new.self.at (sym c.in_ok-k.ensures.1) _ c.requires in
    let l : length (take c.in_ok-k.k c.args.corners.now) ≡ c.in_ok-k.k = simp length-take (omega arith) in
    let f = rw (l, c.in_ok-k.ensures.0) at c.in_ok-fill.ensures.0.1 in
    let t = rw (c.in_ok-fill.ensures.0.0 ∙ c.in_ok-k.ensures.0) at c.in_err-expect.ensures.1 in
    absurd (never _ _ (t ∙ ap (λ p. token_at line_end c.args.reader.now.text.now p) (ok_is _ _ (f ∙ ap place_of s.1)) ∙ s.2))

pub returns : goal.returns
returns c vs q e =
    let s = face_split c.args.reader.now.text.now c.args.reader.now.at c.in_ok-k.k c.natural.new.self.at (sym c.in_ok-k.ensures.1) vs q e in
    let r = face_room c.args.reader.now.text.now c.args.reader.now.at c.in_ok-k.k c.natural.new.self.at (sym c.in_ok-k.ensures.1) _ c.requires in
    let l : length (take c.in_ok-k.k c.args.corners.now) ≡ c.in_ok-k.k = simp length-take (omega arith) in
    let f = rw (l, c.in_ok-k.ensures.0) at c.in_ok-fill.ensures.0.1 in
    let w = rw (l, c.in_ok-k.ensures.0) at c.in_ok-fill.ensures.1 in
    let same = c.in_ok-fill.ensures.0.0 ∙ c.in_ok-k.ensures.0 in
    let t = rw same at c.in_ok-expect.ensures.1 in (
      ap (λ k. Ok k) (sym s.3),
      c.in_ok-expect.ensures.0 ∙ same,
      ok_is _ _ (t ∙ ap (λ p. token_at line_end c.args.reader.now.text.now p) (ok_is _ _ (f ∙ ap place_of s.1)) ∙ s.2),
      λ j. w vs s.0 s.1 j ++ drop (sym s.3 j) c.args.corners.now,
    )
