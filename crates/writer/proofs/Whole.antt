-- All that writing a sheet promises, from its outcome.
use Rattle.std.proofs.Common.{◌≡◌, ℕ, ◌≤◌, Bool, List, ◌++◌, length, take, drop, Ok, Err, Result, sym, ap, ◌∙◌, zero-add, arith}
use Rattle.mesh.specs.Mesh.{Mesh, Lawful}
use Rattle.sheet.specs.Read.{Tables, sizes, holding, read}
use Rattle.sheet.specs.Sheet.{sheet_text}
use Rattle.point.specs.declared.solid.SolidRecord.{SolidRecord}
use Rattle.writer.specs.Buffer.{Put}
use Rattle.writer.specs.Listing.{sheet_of, bytes_needed}
use Rattle.writer.specs.Outcome.{Outcome, Roomy, Writes}
use Rattle.writer.specs.declared.fault.WriteFault.{WriteFault}
use Rattle.writer.proofs.Limits.{ranged}
use Rattle.writer.proofs.Tells.{told}
use Rattle.writer.proofs.ReadBack.{read_back}
use Rattle.writer.proofs.Again.{same}

module _ (m : Mesh) (l : Lawful m) (table : List SolidRecord) (backward : Bool) (was is : List ℕ) where
  back : (r : Result ℕ WriteFault) → Outcome m table backward was is r → (k : ℕ) → r ≡ Ok k → (t : Tables) → Roomy (sheet_of m table backward) t
      → read (take k is) 0 t ≡ (Ok (sizes (sheet_of m table backward)), holding (sheet_of m table backward) t)
  back (Ok n) o k e =
      let q : n ≡ k = cc in
      read_back (sheet_of m table backward) was is k (ranged m l table backward) (sym q ∙ o.2) o.3
  back (Err y) o k e = let z : ◌≡◌ {A = ℕ} 0 1 = cc in absurd (omega arith)

  pub whole : (r : Result ℕ WriteFault) → Outcome m table backward was is r → Writes m table backward was is r
  whole r o = record { outcome = o; told = told m l table backward; read_back = back r o; same = same m l table backward }

  pub written_whole : (k : ℕ) → m.n ≤ length table → bytes_needed m ≤ length was → Put 0 k (sheet_text (sheet_of m table backward)) was is → Writes m table backward was is (Ok k)
  written_whole k a b v =
      let w = sheet_text (sheet_of m table backward) in
      whole (Ok k)
      (a, b, v.place ∙ zero-add (length w), v.text ∙ ap (λ x. w ++ drop x was) (zero-add (length w)))
