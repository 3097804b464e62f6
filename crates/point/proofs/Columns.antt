-- What is found of each column is found of each total.
use Rattle.std.proofs.Common.{◌≡◌, ℕ, ◌<◌, List, map, length, get_or, ℤ, pos, sym, ap, ◌∙◌, lit≤}
use denote.Param.Members.{Mut, Called}
use Rattle.std.specs.Array.{IsMapOf}
use Rattle.std.proofs.lemmas.List.{ext_get_or, get_or-map, length-map}
use Rattle.point.specs.declared.tally.Column.{Column}
use Rattle.point.specs.Points.{coordinate}
use Rattle.point.specs.Columns.{parts, with_count}

-- the column of one 0
one_zero : Column
one_zero = record { count = 1; total = pos 0; some = lit≤ tt; few = lit≤ tt; ok = lit≤ tt }

module _ (k : ℕ) (ts : List ℤ) (cs : List Column) (e : map parts cs ≡ map (with_count k) ts) where
  pub columns_long : length cs ≡ length ts
  columns_long = sym (length-map cs parts) ∙ ap length e ∙ length-map ts (with_count k)

  pub column_at : (i : ℕ) (d : Column) → i < length ts → parts (get_or cs i d) ≡ (k, coordinate ts i)
  column_at i d l = sym (get_or-map parts cs i d (parts d) (rw columns_long l)) ∙ ap (λ xs. get_or xs i (parts d)) e ∙ get_or-map (with_count k) ts i (pos 0) (parts d) l

  -- a closure that finds f of each column
  pub found : {F : Type 0} {g : Mut F (Column × Unit {0}) ℤ} {callee : F} {n : ℕ} (f : ℕ → ℤ → ℤ) (ys : List ℤ) → n ≡ length ts → IsMapOf g callee cs ys n
      → ((x : Column) (r : ℤ) (p q : F) → Called g p (x, tt) r q → r ≡ f x.count x.total) → ys ≡ map (f k) ts
  found {n = n} f ys w m law =
      ext_get_or (pos 0) ys (map (f k) ts) (m.long ∙ w ∙ sym (length-map ts (f k)))
      (λ i l.
      let a : i < n = rw (sym m.long) l in
      let b : i < length ts = rw (sym w) a in
      let c = m.at i one_zero (pos 0) a in
      law (get_or cs i one_zero) (coordinate ys i) c.0 c.1 c.2 ∙ ap (λ (p : ℕ × ℤ). f p.0 p.1) (column_at i one_zero b) ∙ sym (get_or-map (f k) ts i (pos 0) (pos 0) b))
