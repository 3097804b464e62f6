-- What was written is read back.
use Rattle.std.proofs.Common.{◌≡◌, ℕ, List, length, take, drop, Ok, sym, refl, ap, ◌∙◌}
use Rattle.std.proofs.lemmas.List.{take_at}
use Rattle.sheet.specs.Fill.{over}
use Rattle.sheet.specs.Read.{Tables, sizes, holding, read}
use Rattle.sheet.specs.Sheet.{Sheet, sheet_text, Ranged}
use Rattle.sheet.proofs.Readings as readings
use Rattle.writer.specs.Outcome.{Roomy}

-- the text of a sheet in range, from the start of a buffer
pub read_back : (s : Sheet) (was is : List ℕ) (k : ℕ) → Ranged s → k ≡ length (sheet_text s) → is ≡ over (sheet_text s) was →
    (t : Tables) → Roomy s t → read (take k is) 0 t ≡ (Ok (sizes s), holding s t)
read_back s was is k i e q t r =
    let w = sheet_text s in
    let text : take k is ≡ w = ap (take k) q ∙ take_at w (drop (length w) was) k (sym e) in
    (readings.told (take k is) 0 t (read (take k is) 0 t).0 (read (take k is) 0 t).1 refl).law.every s i text
    ∙ readings.stored_room s t r.points r.lengths r.corners
