use Rattle.std.proofs.Common.{◌≡◌, ◌++◌, ℤ, sym, ap, ◌∙◌, subst, w32, SFits, to_z, of_z, rules, List, ℕ}
use Rattle.std.specs.Fmt.{signed_decimal}
use Rattle.std.proofs.lemmas.Int.{to_z-of_z}
use Rattle.sheet.specs.Form.{blank, line_end}
use Rattle.sheet.specs.Sheet.{point_text}
use Rattle.point.specs.Solids.{meant_by}
use Rattle.point.specs.declared.solid.SolidRecord.{SolidRecord}
use Rattle.point.specs.declared.solid.SolidPoint.{SolidPoint}
use Rattle.writer.specs.Pages.{HasRoom, Grows}
use Rattle.writer.specs.Points.{meant}
use Rattle.writer.proofs.Writes.{first_room}
use Rattle.writer.proofs.Pages.{grows_on, room_next}
use Rattle.writer.proofs.lines.put_point.Goals as goal
use Rattle.writer.proofs.lines.put_point.Goals.{After-z-z, After-byte-2}

-- a number that is handed over comes out of its bits again
abbrev through : ℤ → ℤ
through z = to_z w32 (of_z w32 z)

abbrev spell : ℤ → ℤ → ℤ → List ℕ
spell x y z = signed_decimal x ++ (blank ++ (signed_decimal y ++ (blank ++ (signed_decimal z ++ line_end))))

spelled : (r : SolidRecord) (p : SolidPoint) (x y z : ℤ) → p ≡ meant_by r → through x ≡ p.x → through y ≡ p.y → through z ≡ p.z →
    point_text (meant r) ≡ spell (through x) (through y) (through z)
spelled r p x y z e a b c =
    ap (λ (q : SolidPoint). spell q.x q.y q.z) (sym e)
    ∙ ap (λ t. spell t p.y p.z) (sym a) ∙ ap (λ t. spell (through x) t p.z) (sym b) ∙ ap (spell (through x) (through y)) (sym c)

text : (c : After-z-z) → point_text (meant c.args.stored.now) ≡ spell (through c.x-x.result) (through c.y-y.result) (through c.z-z.result)
text c =
    let f : SFits w32 c.x-x.result = search rules in
    let g : SFits w32 c.y-y.result = search rules in
    let h : SFits w32 c.z-z.result = search rules in
    spelled c.args.stored.now c.load-point.result c.x-x.result c.y-y.result c.z-z.result c.load-point.ensures
    (to_z-of_z w32 c.x-x.result f ∙ c.x-x.ensures) (to_z-of_z w32 c.y-y.result g ∙ c.y-y.ensures) (to_z-of_z w32 c.z-z.result h ∙ c.z-z.ensures)

last : (c : After-byte-2) → point_text (meant c.args.stored.now) ≡ spell (through c.x-x.result) (through c.y-y.result) (through c.z-z.result) →
    HasRoom (signed_decimal (through c.z-z.result) ++ line_end) c.byte-2.new.self
last c t =
    let r : HasRoom (spell (through c.x-x.result) (through c.y-y.result) (through c.z-z.result)) c.args.page.now =
    subst (λ w. HasRoom w c.args.page.now) t c.requires in
    room_next c.byte-2.ensures (room_next c.signed-2.ensures (room_next c.byte.ensures (room_next c.signed.ensures r)))

pub signed-requires-3 : goal.signed-requires-3
signed-requires-3 c = first_room _ (last (goal.at.signed-requires-3 c).After-byte-2 (text (goal.at.signed-requires-3 c).After-z-z))

pub byte-requires-3 : goal.byte-requires-3
byte-requires-3 c = room_next c.signed-3.ensures (last (goal.at.byte-requires-3 c).After-byte-2 (text (goal.at.byte-requires-3 c).After-z-z))

pub returns : goal.returns
returns c =
    subst (λ w. Grows w c.args.page.now c.byte-3.new.self) (sym (text (goal.at.returns c).After-z-z))
    (grows_on c.signed.ensures (grows_on c.byte.ensures (grows_on c.signed-2.ensures (grows_on c.byte-2.ensures (grows_on c.signed-3.ensures c.byte-3.ensures)))))
