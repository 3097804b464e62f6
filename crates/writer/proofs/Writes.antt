-- Texts put into a buffer one after the other.
use Rattle.std.proofs.Common.{◌≡◌, ℕ, ◌+◌, ◌≤◌, List, ◌++◌, length, take, drop, sym, ap, ◌∙◌, append_assoc, arith, length-append, length-drop}
use Rattle.std.proofs.lemmas.List.{length-take-le, take_at, drop_at, drop-drop}
use Rattle.writer.specs.Buffer.{written, Put, Room}

length_written : (at : ℕ) (w buf : List ℕ) → at + length w ≤ length buf → length (written at w buf) ≡ length buf
length_written at w buf h =
    simp (length-append, length-drop, length-take-le at buf (omega arith)) (omega arith)

-- one text after the other
written_then : (at p : ℕ) (w v buf : List ℕ) → p ≡ at + length w → p ≤ length buf → written p v (written at w buf) ≡ written at (w ++ v) buf
written_then at p w v buf e h =
    let front : length (take at buf ++ w) ≡ p = simp (length-append, length-take-le at buf (omega arith)) (sym e) in
    let n : at + length (w ++ v) ≡ p + length v = omega (arith, length-append w v) in
    let t : take p (written at w buf) ≡ take at buf ++ w =
    ap (take p) (sym (append_assoc (take at buf) w _)) ∙ take_at (take at buf ++ w) _ p front in
    let d : drop (p + length v) (written at w buf) ≡ drop (p + length v) buf =
    sym (drop-drop (length v) p (written at w buf))
    ∙ ap (λ x. drop (length v) (drop p x)) (sym (append_assoc (take at buf) w _))
    ∙ ap (drop (length v)) (drop_at (take at buf ++ w) _ p front)
    ∙ ap (λ x. drop (length v) (drop x buf)) (sym e)
    ∙ drop-drop (length v) p buf in
    ap (λ x. x ++ (v ++ drop (p + length v) (written at w buf))) t
    ∙ ap (λ x. (take at buf ++ w) ++ (v ++ x)) d
    ∙ append_assoc (take at buf) w (v ++ drop (p + length v) buf)
    ∙ ap (λ x. take at buf ++ x) (sym (append_assoc w v _))
    ∙ ap (λ x. take at buf ++ ((w ++ v) ++ drop x buf)) (sym n)

pub and_then : {at p q : ℕ} {w v was mid is : List ℕ} → Put at p w was mid → Put p q v mid is → Put at q (w ++ v) was is
and_then {at} {p} {q} {w} {v} {was} {mid} {is} a b =
    let long : length mid ≡ length was = ap length a.text ∙ length_written at w was (omega arith) in
    record {
      place = omega (arith, length-append w v);
      inside = omega arith;
      text = b.text ∙ ap (written p v) a.text ∙ written_then at p w v was a.place a.inside;
    }

pub first_room : {at : ℕ} {w buf : List ℕ} (v : List ℕ) → Room at (w ++ v) buf → Room at w buf
first_room {at} {w} {buf} v r = record { fits = omega (arith, length-append w v) }

pub next_room : {at p : ℕ} {w v was mid : List ℕ} → Put at p w was mid → Room at (w ++ v) was → Room p v mid
next_room {at} {p} {w} {v} {was} {mid} a r =
    let long : length mid ≡ length was = ap length a.text ∙ length_written at w was (omega arith) in
    record { fits = omega (arith, length-append w v) }
