-- Each spelling of a form is accepted.
use Rattle.std.proofs.Common.{◌≡◌, ℕ, zero, suc, ◌+◌, ◌-◌, ◌^◌, ◌<◌, ◌≤◌, true, false, leb, ◌⊎◌, List, [], ◌∷◌, ◌++◌, length, take, drop, ℤ, pos, negsuc, Ok, codes, decimal, sym, refl, ap, ◌∙◌, inl, inr, ⊎_elim, add-zero, one-add, arith, length-append, length-drop}
use Rattle.std.specs.Char.{is_ascii_digit}
use Rattle.std.specs.Fmt.{signed_decimal}
use Rattle.std.specs.Str.{all_ascii_digits}
use Rattle.std.specs.List.{prefix_len, AllByRecursion}
use Rattle.std.proofs.lemmas.Slice.Eq.{bytes_eq-Decides}
use Rattle.std.proofs.lemmas.List.{drop-drop, drop_at, take_at}
use Rattle.std.proofs.lemmas.Bool.{le-leb, leb-true, and_parts}
use Rattle.std.proofs.lemmas.Fmt.{digits_decimal, decimal_nonempty}
use Rattle.point.specs.Range.{InRange}
use Rattle.sheet.specs.Number.{natural_of, coordinate_of}
use Rattle.sheet.specs.Token.{plain, front}
use Rattle.sheet.specs.Form.{Form, gives, token, natural, coordinate, end, judge, then, token_at, natural_at, coordinate_at, end_at, placed, after, times}
use Rattle.sheet.proofs.Grammar.{Spelled, s_gives, s_token, s_natural, s_coordinate, s_end, Breaks, Mark, Run, Parted, Small}
use Rattle.sheet.specs.Sheet.{sheet, corner, face_line, point_line}
use Rattle.sheet.proofs.Laws.{number_law, own}
use Rattle.sheet.proofs.Tokens.{plain_yes}

-- a text that begins with no plain byte
unfoldable pub Clear : List ℕ → Type 0
Clear [] = Unit {0}
Clear (b ∷ bs) = plain b ≡ false

clear_none : (bs : List ℕ) → Clear bs → prefix_len plain bs ≡ 0
unfolding Clear
clear_none [] c = refl
clear_none (b ∷ bs) c = rw c

run_leads : (w bs : List ℕ) → AllByRecursion (λ b. plain b ≡ true) w → Clear bs → prefix_len plain (w ++ bs) ≡ length w
run_leads [] bs a c = clear_none bs c
run_leads (b ∷ w) bs a c = let e = a.0 in let i = run_leads w bs a.1 c in rw e (one-add _ ∙ ap suc i)

pub front_run_is : (w bs : List ℕ) → Run w → Clear bs → front (w ++ bs) ≡ w
front_run_is [] bs r c = absurd (omega (arith, r.0))
front_run_is (b ∷ w) bs r c =
    let e = r.1.0 in
    rw e (ap (λ n. b ∷ take n (w ++ bs)) (run_leads w bs r.1.1 c) ∙ ap (λ l. b ∷ l) (take_at w bs (length w) refl))

pub front_mark : (w bs : List ℕ) → Mark w → front (w ++ bs) ≡ w
front_mark w bs m =
    let e = m.2 in
    let f : front (m.0 ∷ bs) ≡ m.0 ∷ [] = rw e in
    ap (λ x. front (x ++ bs)) m.1 ∙ f ∙ sym m.1

token_clear : {A : Type 0} (w : List ℕ) (f : Form A) (bs : List ℕ) → Breaks (token w f) → Clear (w ++ bs)
unfolding Clear
token_clear [] f bs b = absurd b
token_clear (x ∷ w) f bs b = b

pub breaks_clear : {A : Type 0} {f : Form A} {a : A} {bs : List ℕ} → Spelled f a bs → Breaks f → Clear bs
unfolding Clear
breaks_clear s_gives b = absurd b
breaks_clear (s_token {w = w} {f = f} {bs = bs} s) b = token_clear w f bs b
breaks_clear (s_natural n l h s) b = absurd b
breaks_clear (s_coordinate z h s) b = absurd b
breaks_clear (s_end s) b = tt

digits_plain : (ds : List ℕ) → all_ascii_digits ds ≡ true → AllByRecursion (λ b. plain b ≡ true) ds
digits_plain [] e = tt
digits_plain (d ∷ ds) e =
    let p = and_parts (is_ascii_digit d) (all_ascii_digits ds) e in
    let lo = leb-true 48 d (and_parts (leb 48 d) (leb d 57) p.0).0 in
    (plain_yes d (λ h. omega arith) (λ h. omega arith), digits_plain ds p.1)

pub run_decimal : (n : ℕ) → n < 2 ^ 64 → Run (decimal n)
run_decimal n h = (decimal_nonempty n h, digits_plain (decimal n) (digits_decimal own n h))

pub run_signed : (z : ℤ) → InRange z → Run (signed_decimal z)
run_signed (pos n) i = run_decimal n (omega arith)
run_signed (negsuc n) i = (omega arith, (refl, (run_decimal (suc n) (omega arith)).1))

-- what follows a token that stands at a place
pub next_part : (text w bs : List ℕ) (p : ℕ) → drop p text ≡ w ++ bs → drop (p + length w) text ≡ bs
next_part text w bs p e = sym (drop-drop (length w) p text) ∙ ap (drop (length w)) e ∙ drop_at w bs (length w) refl

far : (p : ℕ) (w bs : List ℕ) → p + length w + length bs ≡ p + length (w ++ bs)
far p w bs = simp length-append (omega arith)

pub complete : {A : Type 0} {f : Form A} {a : A} {bs : List ℕ} → Spelled f a bs → Parted f → (text : List ℕ) (p : ℕ) → drop p text ≡ bs → judge f text p ≡ Ok (a, p + length bs)
complete (s_gives {a = a}) c text p e = ap (λ k. Ok (a, k)) (sym (add-zero p))
complete (s_token {w = w} {f = f} {a = a} {bs = bs} s) c text p e =
    let fr : front (drop p text) ≡ w = ap front e ∙ ⊎_elim (front_mark w bs) (λ r. front_run_is w bs r.0 (breaks_clear s r.1)) c.0 in
    let sm = (bytes_eq-Decides w (front (drop p text))).1 (sym fr) in
    let tk : token_at w text p ≡ Ok (p + length w) = rw sm in
    let i = complete s c.1 text (p + length w) (next_part text w bs p e) in
    ap (λ x. then x (λ q. judge f text q)) tk ∙ i ∙ ap (λ k. Ok (a, k)) (far p w bs)
complete (s_natural {low = low} {high = high} {k = k} {a = a} {bs = bs} n l h s) c text p e =
    let fr : front (drop p text) ≡ decimal n = ap front e ∙ front_run_is (decimal n) bs (run_decimal n (omega (arith, c.0))) (breaks_clear s (c.1 n).0) in
    let nl = ((number_law p).1 low high c.0).complete n (l, h) in
    let tk : natural_at low high text p ≡ Ok (n, p + length (decimal n)) = ap (λ x. then (natural_of low high p x) (placed (p + length x))) fr ∙ ap (λ x. then x (placed (p + length (decimal n)))) nl in
    let i = complete s (c.1 n).1 text (p + length (decimal n)) (next_part text (decimal n) bs p e) in
    ap (λ x. then x (λ r. judge (k r.0) text r.1)) tk ∙ i ∙ ap (λ k. Ok (a, k)) (far p (decimal n) bs)
complete (s_coordinate {k = k} {a = a} {bs = bs} z h s) c text p e =
    let fr : front (drop p text) ≡ signed_decimal z = ap front e ∙ front_run_is (signed_decimal z) bs (run_signed z h) (breaks_clear s (c z).0) in
    let nl = (number_law p).0.complete z h in
    let tk : coordinate_at text p ≡ Ok (z, p + length (signed_decimal z)) = ap (λ x. then (coordinate_of p x) (placed (p + length x))) fr ∙ ap (λ x. then x (placed (p + length (signed_decimal z)))) nl in
    let i = complete s (c z).1 text (p + length (signed_decimal z)) (next_part text (signed_decimal z) bs p e) in
    ap (λ x. then x (λ r. judge (k r.0) text r.1)) tk ∙ i ∙ ap (λ k. Ok (a, k)) (far p (signed_decimal z) bs)
complete (s_end {f = f} {a = a} s) c text p e =
    let l : length text ≤ p = omega (arith, length-drop p text, ap length e) in
    let t = le-leb (length text) p l in
    let tk : end_at text p ≡ Ok p = rw t in
    ap (λ x. then x (λ q. judge f text q)) tk ∙ complete s c text p e

-- forms one after another
breaks_after : {A B : Type 0} (f : Form A) (k : A → Form B) → Breaks f → Breaks (after f k)
breaks_after (gives a) k b = absurd b
breaks_after (token [] f) k b = absurd b
breaks_after (token (x ∷ w) f) k b = b
breaks_after (natural low high g) k b = absurd b
breaks_after (coordinate g) k b = absurd b
breaks_after (end f) k b = tt

-- the same of a form that stands before another: it says all, or breaks
May : {A : Type 0} → Form A → Type 0
May (gives a) = Unit {0}
May (token [] f) = ⊥
May (token (b ∷ w) f) = plain b ≡ false
May (natural low high k) = ⊥
May (coordinate k) = ⊥
May (end f) = Unit {0}

Open : {A : Type 0} → Form A → Type 0
Open (gives a) = Unit {0}
Open (token w f) = (Mark w ⊎ (Run w × May f)) × Open f
Open (natural low high k) = (high < 2 ^ 32 - 1) × ((n : ℕ) → May (k n) × Open (k n))
Open (coordinate k) = (z : ℤ) → May (k z) × Open (k z)
Open (end f) = Open f

may_breaks : {A B : Type 0} (f : Form A) (k : A → Form B) → May f → ((a : A) → Breaks (k a)) → Breaks (after f k)
unfolding May
may_breaks (gives a) k b h = h a
may_breaks (token [] f) k b h = absurd b
may_breaks (token (x ∷ w) f) k b h = b
may_breaks (natural low high g) k b h = absurd b
may_breaks (coordinate g) k b h = absurd b
may_breaks (end f) k b h = tt

may_after : {A B : Type 0} (f : Form A) (k : A → Form B) → May f → ((a : A) → May (k a)) → May (after f k)
unfolding May
may_after (gives a) k b h = h a
may_after (token [] f) k b h = absurd b
may_after (token (x ∷ w) f) k b h = b
may_after (natural low high g) k b h = absurd b
may_after (coordinate g) k b h = absurd b
may_after (end f) k b h = tt

open_parted : {A B : Type 0} (f : Form A) (k : A → Form B) → Open f → ((a : A) → Breaks (k a) × Parted (k a)) → Parted (after f k)
unfolding Open
open_parted (gives a) k c h = (h a).1
open_parted (token w f) k c h = (⊎_elim (λ m. inl m) (λ r. inr (r.0, may_breaks f k r.1 (λ a. (h a).0))) c.0, open_parted f k c.1 h)
open_parted (natural low high g) k c h = (c.0, λ n. (may_breaks (g n) k (c.1 n).0 (λ a. (h a).0), open_parted (g n) k (c.1 n).1 h))
open_parted (coordinate g) k c h = λ z. (may_breaks (g z) k (c z).0 (λ a. (h a).0), open_parted (g z) k (c z).1 h)
open_parted (end f) k c h = open_parted f k c h

open_after : {A B : Type 0} (f : Form A) (k : A → Form B) → Open f → ((a : A) → May (k a) × Open (k a)) → Open (after f k)
unfolding Open
open_after (gives a) k c h = (h a).1
open_after (token w f) k c h = (⊎_elim (λ m. inl m) (λ r. inr (r.0, may_after f k r.1 (λ a. (h a).0))) c.0, open_after f k c.1 h)
open_after (natural low high g) k c h = (c.0, λ n. (may_after (g n) k (c.1 n).0 (λ a. (h a).0), open_after (g n) k (c.1 n).1 h))
open_after (coordinate g) k c h = λ z. (may_after (g z) k (c z).0 (λ a. (h a).0), open_after (g z) k (c z).1 h)
open_after (end f) k c h = open_after f k c h

pub parted_after : {A B : Type 0} (f : Form A) (k : A → Form B) → Parted f → ((a : A) → Parted (k a)) → Parted (after f k)
parted_after (gives a) k c h = h a
parted_after (token w f) k c h = (⊎_elim (λ m. inl m) (λ r. inr (r.0, breaks_after f k r.1)) c.0, parted_after f k c.1 h)
parted_after (natural low high g) k c h = (c.0, λ n. (breaks_after (g n) k (c.1 n).0, parted_after (g n) k (c.1 n).1 h))
parted_after (coordinate g) k c h = λ z. (breaks_after (g z) k (c z).0, parted_after (g z) k (c z).1 h)
parted_after (end f) k c h = parted_after f k c h

parted_times : {A : Type 0} (n : ℕ) (f : Form A) → Parted f → Parted (times n f)
parted_times zero f c = tt
parted_times (suc n) f c = parted_after f _ c (λ a. parted_after (times n f) _ (parted_times n f c) (λ rest. tt))

parted_line : Parted point_line
parted_line x = (refl, (inl (32, refl, refl), λ y. (refl, (inl (32, refl, refl), λ z. (refl, (inl (10, refl, refl), tt))))))

open_corner : Open corner
unfolding Open May
open_corner = (inl (32, refl, refl), (omega arith, λ v. (tt, tt)))

open_corners : (k : ℕ) → May (times k corner) × Open (times k corner)
unfolding Open May
open_corners zero = (tt, tt)
open_corners (suc k) =
    let i = open_corners k in (
      refl,
      open_after corner (λ v. after (times k corner) (λ vs. gives (v ∷ vs))) open_corner
          (λ v. (may_after (times k corner) _ i.0 (λ vs. tt), open_after (times k corner) _ i.1 (λ vs. (tt, tt)))),
    )

parted_face : Parted face_line
parted_face = (
  omega arith,
  λ k. let i = open_corners k in
      (may_breaks (times k corner) _ i.0 (λ vs. refl), open_parted (times k corner) _ i.1 (λ vs. (refl, (inl (10, refl, refl), tt)))),
)

pub run_job : Run (codes "job")
run_job = (omega arith, (refl, (refl, (refl, tt))))

run_points : Run (codes "points")
run_points = (omega arith, (refl, (refl, (refl, (refl, (refl, (refl, tt)))))))

run_faces : Run (codes "faces")
run_faces = (omega arith, (refl, (refl, (refl, (refl, (refl, tt))))))

run_end : Run (codes "end")
run_end = (omega arith, (refl, (refl, (refl, tt))))

pub parted_sheet : Parted sheet
parted_sheet = (inr (run_points, refl), (inl (32, refl, refl), (omega arith, λ n. (refl, (inl (10, refl, refl), parted_after (times n point_line) _ (parted_times n point_line parted_line) (λ ps. (inr (run_faces, refl), (inl (32, refl, refl), (omega arith, λ m. (refl, (inl (10, refl, refl), parted_after (times m face_line) _ (parted_times m face_line parted_face) (λ fs. (inr (run_end, refl), (inl (10, refl, refl), tt))))))))))))))

pub small : {A : Type 0} (f : Form A) → Parted f → Small f
small (gives a) c = tt
small (token w f) c = small f c.1
small (natural low high k) c = (c.0, λ n. small (k n) (c.1 n).1)
small (coordinate k) c = λ z. small (k z) (c z).1
small (end f) c = small f c
