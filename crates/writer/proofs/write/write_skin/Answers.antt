use Rattle.std.proofs.Common.{◌≡◌, ◌≤◌, length, Err, sym, refl, ap, ◌∙◌, subst, arith}
use Rattle.std.proofs.lemmas.Result.{err_from_is_err_and}
use Rattle.mesh.specs.Count.{vertices, faces}
use Rattle.skin.specs.Skins.{mesh}
use Rattle.writer.specs.Listing.{bytes_needed, sheet_of}
use Rattle.sheet.specs.Sheet.{sheet_text}
use Rattle.writer.specs.Buffer.{Put, Room}
use Rattle.writer.specs.Outcome.{Writes}
use Rattle.writer.proofs.Bounds.{text_bound}
use Rattle.writer.proofs.Whole.{whole, written_whole}
use Rattle.writer.proofs.write.write_skin.Given as given
use Rattle.writer.proofs.write.write_skin.Goals as goal
use Rattle.writer.proofs.write.write_skin.Goals.{After-bytes_needed-needed, In_ok-at_least, In_ok-at_least-2, In_ok-listing}

-- what is listed is the sheet of what was handed over
the_sheet : (g : given.Over) (c : In_ok-listing g) →
    sheet_text (sheet_of (mesh g.S.Skin c.in_ok-listing.listing.skin.now) c.in_ok-listing.listing.points.now c.in_ok-listing.listing.backward)
    ≡ sheet_text (sheet_of (mesh g.S.Skin c.args.skin.now) c.args.points.now c.args.backward)
the_sheet g c =
    let q = c.in_ok-listing.ensures in
    let x = c.in_ok-listing.listing in
    ap (λ s. sheet_text (sheet_of (mesh g.S.Skin s) x.points.now x.backward)) q.0
    ∙ ap (λ t. sheet_text (sheet_of (mesh g.S.Skin c.args.skin.now) t x.backward)) q.1
    ∙ ap (λ b. sheet_text (sheet_of (mesh g.S.Skin c.args.skin.now) c.args.points.now b)) q.2

-- the bytes needed, and that the points and the buffer are long enough
needed : (g : given.Over) (c : After-bytes_needed-needed g) → c.bytes_needed-needed.result ≡ bytes_needed (mesh g.S.Skin c.args.skin.now)
needed g c =
    omega (arith, c.bytes_needed-needed.ensures, ap (λ x. x.vertices) c.count-counts.ensures.answer, ap (λ x. x.faces) c.count-counts.ensures.answer, c.n-n.ensures)

long : (g : given.Over) (c : In_ok-at_least g) → g.S.Skin.n c.args.skin.now ≤ length c.args.points.now
long g c = omega (arith, c.in_ok-at_least.ensures, c.n-n.ensures)

enough : (g : given.Over) (c : In_ok-at_least-2 g) → c.bytes_needed-needed.result ≡ bytes_needed (mesh g.S.Skin c.args.skin.now) → bytes_needed (mesh g.S.Skin c.args.skin.now) ≤ length c.args.buf.now
enough g c e = omega (arith, c.in_ok-at_least-2.ensures, e)

pub returns-in_err-at_least : goal.returns-in_err-at_least
returns-in_err-at_least g c =
    let p = err_from_is_err_and c.from_residual.result c.from_residual.ensures.1 in
    let h = c.in_err-at_least.ensures in
    subst (Writes (mesh g.S.Skin c.args.skin.now) c.args.points.now c.args.backward c.args.buf.now c.args.buf.now) (sym (p.1 ∙ ap Err (p.2 ∙ h.1)))
    (whole _ (g.S.Skin.lawful c.args.skin.now) _ _ _ _ _ (omega (arith, h.0, c.n-n.ensures), c.n-n.ensures, refl))

pub returns-in_err-at_least-2 : goal.returns-in_err-at_least-2
returns-in_err-at_least-2 g c =
    let m = mesh g.S.Skin c.args.skin.now in
    let at = goal.at.returns-in_err-at_least-2 g c in
    let p = err_from_is_err_and c.from_residual-in_err-at_least-2.result c.from_residual-in_err-at_least-2.ensures.1 in
    let h = c.in_err-at_least-2.ensures in
    let e = needed g at.After-bytes_needed-needed in
    subst (Writes m c.args.points.now c.args.backward c.args.buf.now c.args.buf.now) (sym (p.1 ∙ ap Err (p.2 ∙ h.1)))
    (whole _ (g.S.Skin.lawful c.args.skin.now) _ _ _ _ _ (long g at.In_ok-at_least, omega (arith, h.0, e), e, refl))

pub returns-in_err-listing : goal.returns-in_err-listing
returns-in_err-listing g c =
    let m = mesh g.S.Skin c.args.skin.now in
    let at = goal.at.returns-in_err-listing g c in
    let p = err_from_is_err_and c.from_residual-in_err-listing.result c.from_residual-in_err-listing.ensures.1 in
    subst (Writes m c.args.points.now c.args.backward c.args.buf.now c.args.buf.now) (sym (p.1 ∙ ap Err p.2))
    (whole m (g.S.Skin.lawful c.args.skin.now) _ _ _ _ _
    (long g at.In_ok-at_least, enough g at.In_ok-at_least-2 (needed g at.After-bytes_needed-needed), refl))

pub put_sheet-requires : goal.put_sheet-requires
put_sheet-requires g c =
    let m = mesh g.S.Skin c.args.skin.now in
    let at = goal.at.put_sheet-requires g c in
    let q = c.in_ok-listing.ensures in
    let room = enough g at.In_ok-at_least-2 (needed g at.After-bytes_needed-needed) in
    record {
      v_counted = ap (λ x. x.vertices) c.count-counts.ensures.answer ∙ ap (λ s. vertices (mesh g.S.Skin s)) (sym q.0);
      f_counted = ap (λ x. x.faces) c.count-counts.ensures.answer ∙ ap (λ s. faces (mesh g.S.Skin s)) (sym q.0);
      room = subst (λ w. Room 0 w c.args.buf.now) (sym (the_sheet g at.In_ok-listing))
          (record { fits = omega (arith, room, text_bound m (g.S.Skin.lawful c.args.skin.now) c.args.points.now c.args.backward) });
    }

pub returns : goal.returns
returns g c =
    let at = goal.at.returns g c in
    written_whole (mesh g.S.Skin c.args.skin.now) (g.S.Skin.lawful c.args.skin.now) _ _ _ _ _
    (long g at.In_ok-at_least)
    (enough g at.In_ok-at_least-2 (needed g at.After-bytes_needed-needed))
    (subst (λ w. Put 0 c.put_sheet.result w c.args.buf.now c.put_sheet.new.buf) (the_sheet g at.In_ok-listing) c.put_sheet.ensures)
