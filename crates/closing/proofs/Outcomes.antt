-- The outcomes of closing, by what was found.
use Rattle.std.proofs.Common.{◌≡◌, ℕ, ◌<◌, ◌≤◌, Bool, true, false, cond, ◌||◌, ltb, List, ◌++◌, map, length, get_or, drop, is_ok, Some, None, Ok, Err, Option, Result, sym, refl, ap, ◌∙◌, subst, inl, inr, ⊎_elim, arith}
use Rattle.std.specs.List.{range_with_len}
use Rattle.std.specs.Option.{option_map}
use Rattle.std.proofs.lemmas.List.FromFn.{length-map-range_with_len, get_or-map-range_with_len}
use Rattle.std.proofs.lemmas.List.{get_or_append_left}
use Rattle.std.proofs.lemmas.Bool.{cases_Bool, or_left, or_right, or_from, false≢true, cond-true, cond-false, lt-ltb, le-ltb, ltb-true, ltb-false, or_parts}
use Rattle.mesh.specs.Tables.{tables}
use Rattle.mesh.specs.Smallest.{smallest}
use Rattle.closing.specs.declared.fault.SkinFault.{SkinFault}
use Rattle.closing.specs.declared.fault.SkinFault.TheVariants.{Face, TooMany, Short, Stray, Twice, Met, Single, Bare, Several, Crowded}
use Rattle.closing.specs.Numbering.{start}
use Rattle.closing.specs.Sheet.{Sheet, darts, mesh, odd}
use Rattle.closing.specs.Edges.{Holds}
use Rattle.closing.specs.Law.{Skins, Closable}
use Rattle.closing.specs.Causes.{Places, places, Room, Lacks}
use Rattle.closing.proofs.Exact.{closable, closable_sound, skins_same}
use Rattle.closing.proofs.Causes.{told_first}
use Rattle.closing.specs.Closed.{or_zero, Closed, Tell}
use Rattle.closing.specs.Verdict.{unless, judged, verdict, scant, clears, front, leaves}
use Rattle.closing.proofs.Lawful.{Sound, closes}
use Rattle.std.specs.Option.{ok_or}
use Rattle.closing.proofs.Verdicts.{never, declined, passed, none_mapped, listed}

-- the same outcome with n to answer
abbrev pub told : {A B : Type 0} → B → Result A SkinFault → Result B SkinFault
told n (Ok x) = Ok n
told n (Err y) = Err y

as_unless : {A B : Type 0} (n : B) (f : ℕ → SkinFault) (o : Option ℕ) (r : Result A SkinFault) (q : Result B SkinFault) → q ≡ told n r → unless f o q ≡ told n (unless f o r)
unfolding unless
as_unless n f (Some x) r q e = refl
as_unless n f None r q e = e

pub judged_as : {A B : Type 0} (s : Sheet) (n : B) (a : A) → judged s n ≡ told n (judged s a)
unfolding judged
judged_as s n a =
    as_unless n Stray _ _ _ (as_unless n Twice _ _ _ (as_unless n Met _ _ _ (as_unless n Single _ _ _ (as_unless n Bare _ _ _ (as_unless n Several _ _ _ (as_unless n Crowded _ _ _ refl))))))

-- what is left in a table once the sheet was judged
module _ (n : ℕ) (f : ℕ → ℕ) (old : List ℕ) where
  Late : Result (Unit {0}) SkinFault → Type 0
  Late r = leaves n (told n r) f old ≡ front n (or_zero r f) old

  late_unless : (k : ℕ → SkinFault) → ((x : ℕ) → Late (Err (k x))) → (o : Option ℕ) (r : Result (Unit {0}) SkinFault) → Late r → Late (unless k o r)
  unfolding unless Late
  late_unless k e (Some x) r l = e x
  late_unless k e None r l = l

  late_judged : (s : Sheet) → Late (judged s tt)
  unfolding judged Late
  late_judged s =
      late_unless Stray (λ x. refl) _ _ (late_unless Twice (λ x. refl) _ _ (late_unless Met (λ x. refl) _ _ (late_unless Single (λ x. refl) _ _
      (late_unless Bare (λ x. refl) _ _ (late_unless Several (λ x. refl) _ _ (late_unless Crowded (λ x. refl) _ _ refl))))))

  pub late : (s : Sheet) (r : Result (Unit {0}) SkinFault) → r ≡ judged s tt → leaves n (told n r) f old ≡ front n (or_zero r f) old
  unfolding Late
  late s r e = subst Late (sym e) (late_judged s)

-- ---- nothing was found

ok_unless : {A : Type 0} (f : ℕ → SkinFault) (o : Option ℕ) (r : Result A SkinFault) → is_ok (unless f o r) ≡ true → (o ≡ None) × (is_ok r ≡ true)
unfolding unless
ok_unless f (Some x) r e = absurd (false≢true e)
ok_unless f None r e = (refl, e)

pub sound : (s : Sheet) → smallest (length s.lengths) (odd s.lengths) ≡ None → darts s ≤ 1048576 → is_ok (judged {A = Unit {0}} s tt) ≡ true → Sound s
unfolding judged
sound s faces few e =
    let a = ok_unless Stray _ _ e in
    let b = ok_unless Twice _ _ a.1 in
    let c = ok_unless Met _ _ b.1 in
    let d = ok_unless Single _ _ c.1 in
    let g = ok_unless Bare _ _ d.1 in
    let h = ok_unless Several _ _ g.1 in
    let i = ok_unless Crowded _ _ h.1 in
    record { faces = faces; few = few; known = a.0; once = none_mapped _ _ (sym b.0); new = c.0; paired = d.0; used = g.0; whole = h.0; roomy = i.0 }

-- ---- the answers

pub first_face : (s : Sheet) (p : Places) (x : ℕ) → Some x ≡ smallest (length s.lengths) (odd s.lengths) → Err (Face x) ≡ verdict s p
unfolding verdict
first_face s p x e = declined Face _ _ x e

module _ (s : Sheet) (p : Places) (faces : None ≡ smallest (length s.lengths) (odd s.lengths)) where
  pub too_many : 1048576 < darts s → Err TooMany ≡ verdict s p
  unfolding verdict
  too_many l = passed Face _ _ _ faces (sym (cond-true (ltb 1048576 (darts s)) _ _ (lt-ltb 1048576 (darts s) l)))

  pub too_short : darts s ≤ 1048576 → scant (darts s) p ≡ true → Err (Short (darts s)) ≡ verdict s p
  unfolding verdict
  too_short l t = passed Face _ _ _ faces (sym (cond-false (ltb 1048576 (darts s)) _ _ (le-ltb 1048576 (darts s) l) ∙ cond-true (scant (darts s) p) _ _ t))

  pub goes_on : darts s ≤ 1048576 → scant (darts s) p ≡ false → (r : Result ℕ SkinFault) → r ≡ judged s (darts s) → r ≡ verdict s p
  unfolding verdict
  goes_on l t r e = passed Face _ _ _ faces (e ∙ sym (cond-false (ltb 1048576 (darts s)) _ _ (le-ltb 1048576 (darts s) l) ∙ cond-false (scant (darts s) p) _ _ t))

-- ---- taken exactly if nothing was found

all_pass : {A : Type 0} (s : Sheet) (a : A) → Sound s → Ok a ≡ judged s a
unfolding judged
all_pass s a ok =
    passed _ _ _ _ (sym ok.known) (passed _ _ _ _ (sym (ap (option_map (start s.lengths)) ok.once)) (passed _ _ _ _ (sym ok.new) (passed _ _ _ _ (sym ok.paired)
    (passed _ _ _ _ (sym ok.used) (passed _ _ _ _ (sym ok.whole) (passed _ _ _ _ (sym ok.roomy) refl))))))

pub roomy : (n : ℕ) (p : Places) → Room n p → scant n p ≡ false
roomy n p r = or_from _ _ (le-ltb p.corners n r.corners) (or_from _ _ (le-ltb p.next n r.next) (or_from _ _ (le-ltb p.prev n r.prev) (le-ltb p.twin n r.twin)))

room_from : (n : ℕ) (p : Places) → scant n p ≡ false → Room n p
room_from n p e =
    let x = or_parts (ltb p.corners n) (ltb p.next n || (ltb p.prev n || ltb p.twin n)) e in
    let y = or_parts (ltb p.next n) (ltb p.prev n || ltb p.twin n) x.1 in
    let z = or_parts (ltb p.prev n) (ltb p.twin n) y.1 in
    record { corners = ltb-false p.corners n x.0; next = ltb-false p.next n y.0; prev = ltb-false p.prev n z.0; twin = ltb-false p.twin n z.1 }

ok_judged : {A : Type 0} (s : Sheet) (a : A) → is_ok (judged s a) ≡ true → is_ok (judged {A = Unit {0}} s tt) ≡ true
ok_judged s a e = both (judged {A = Unit {0}} s tt) (ap is_ok (sym (judged_as s a tt)) ∙ e)
  where
    both : (r : Result (Unit {0}) SkinFault) → is_ok (told a r) ≡ true → is_ok r ≡ true
    both (Ok x) e = refl
    both (Err x) e = absurd (false≢true e)

pub exact : (s : Sheet) (p : Places) (r : Result ℕ SkinFault) → r ≡ verdict s p → (is_ok r ≡ true → Closable s × Room (darts s) p) × (Closable s → Room (darts s) p → is_ok r ≡ true)
unfolding verdict
exact s p r e = (
  λ o.
      let v = ok_unless Face _ _ (ap is_ok (sym e) ∙ o) in
      go v.0 (ltb 1048576 (darts s)) refl (scant (darts s) p) refl v.1,
  λ k room.
      let ok = closable_sound s k in
      ap is_ok (e ∙ sym (goes_on s p (sym ok.faces) ok.few (roomy (darts s) p room) (Ok (darts s)) (all_pass s (darts s) ok))),
)
  where
    go : smallest (length s.lengths) (odd s.lengths) ≡ None → (x : Bool) → ltb 1048576 (darts s) ≡ x → (y : Bool) → scant (darts s) p ≡ y →
        is_ok (cond x (Err TooMany) (cond y (Err (Short (darts s))) (judged s (darts s)))) ≡ true → Closable s × Room (darts s) p
    go f true q y t o = absurd (false≢true o)
    go f false q true t o = absurd (false≢true o)
    go f false q false t o = (closable s (sound s f (ltb-false 1048576 (darts s) q) (ok_judged s (darts s) o)), room_from (darts s) p t)

-- ---- the whole

pub front_at : (n : ℕ) (f : ℕ → ℕ) (old : List ℕ) (h : ℕ) → h < n → get_or (front n f old) h 0 ≡ f h
front_at n f old h l =
    get_or_append_left (map f (range_with_len 0 n)) (drop n old) 0 h (let e : length (map f (range_with_len 0 n)) ≡ n = length-map-range_with_len f 0 n in omega arith)
    ∙ get_or-map-range_with_len f 0 n h h 0 l (omega arith)

-- a table whose first places hold g
pub fronted : (n : ℕ) (g : ℕ → ℕ) (part old whole : List ℕ) → Holds g n part → whole ≡ part ++ drop n old → whole ≡ front n g old
fronted n g part old whole h e = e ∙ ap (λ (p : List ℕ). p ++ drop n old) (listed g n part h)

pub settled : (s : Sheet) (a b c x y z : List ℕ) (r : Result (Unit {0}) SkinFault) → None ≡ smallest (length s.lengths) (odd s.lengths) → darts s ≤ 1048576 →
    scant (darts s) (places s a b c) ≡ false → r ≡ judged s tt →
    x ≡ front (darts s) (or_zero r (mesh s).next) a → y ≡ front (darts s) (or_zero r (mesh s).prev) b → z ≡ front (darts s) (or_zero r (mesh s).twin) c →
    Closed s a b c x y z (told (darts s) r)
settled s a b c x y z r faces few room e p q t =
    let said = goes_on s (places s a b c) faces few room (told (darts s) r) (ap (told (darts s)) e ∙ sym (judged_as s (darts s) tt)) in
    record {
      answer = said;
      told = told_first s (places s a b c) (told (darts s) r) said;
      exact = exact s (places s a b c) (told (darts s) r) said;
      next = p ∙ sym (late (darts s) (mesh s).next a s r e);
      prev = q ∙ sym (late (darts s) (mesh s).prev b s r e);
      twin = t ∙ sym (late (darts s) (mesh s).twin c s r e);
      skin = skin r e p q t;
    }
  where
    skin : (r : Result (Unit {0}) SkinFault) → r ≡ judged s tt → x ≡ front (darts s) (or_zero r (mesh s).next) a → y ≡ front (darts s) (or_zero r (mesh s).prev) b → z ≡ front (darts s) (or_zero r (mesh s).twin) c →
        is_ok (told {B = ℕ} (darts s) r) ≡ true → Skins s (tables (darts s) x y z)
    skin (Err w) e p q t o = absurd (false≢true o)
    skin (Ok w) e p q t o =
        skins_same s (mesh s) (tables (darts s) x y z) (closes s (sound s (sym faces) few (ap is_ok (sym e)))) (record {
          n = refl;
          next = λ h l. sym (ap (λ (xs : List ℕ). get_or xs h 0) p ∙ front_at (darts s) (mesh s).next a h l);
          prev = λ h l. sym (ap (λ (xs : List ℕ). get_or xs h 0) q ∙ front_at (darts s) (mesh s).prev b h l);
          twin = λ h l. sym (ap (λ (xs : List ℕ). get_or xs h 0) t ∙ front_at (darts s) (mesh s).twin c h l);
        })

-- declined before anything was judged
pub untouched : (s : Sheet) (a b c : List ℕ) (y : SkinFault) → Err y ≡ verdict s (places s a b c) → clears y ≡ false → Closed s a b c a b c (Err y)
untouched s a b c y e still = record {
  answer = e;
  told = told_first s (places s a b c) (Err y) e;
  exact = exact s (places s a b c) (Err y) e;
  next = sym (cond-false (clears y) _ a still);
  prev = sym (cond-false (clears y) _ b still);
  twin = sym (cond-false (clears y) _ c still);
  skin = λ o. absurd (false≢true o);
}

-- ---- what the code has in hand

-- the tables as they were, and an answer
abbrev pub Untouched : Sheet → List ℕ → List ℕ → List ℕ → Result ℕ SkinFault → Type 0
Untouched s a b c r = Closed s a b c a b c r

-- a count, or the fault in its place
pub none_counted : (o : Option ℕ) (y : SkinFault) {e : SkinFault} → ok_or o y ≡ Err e → (None ≡ o) × (e ≡ y)
none_counted None y w = (refl, let z = w in cc)
none_counted (Some n) y w = never (sym w)

pub counted : (o : Option ℕ) (y : SkinFault) {n : ℕ} → ok_or o y ≡ Ok n → Some n ≡ o
counted None y w = never w
counted (Some m) y {n} w = let z : m ≡ n = cc in ap Some (sym z)

pub counted_none : (t : ℕ) → ◌≡◌ {A = Option ℕ} None (cond (ltb 1048576 t) None (Some t)) → 1048576 < t
counted_none t e = ⊎_elim (λ y. ltb-true 1048576 t y) (λ y. let z : ◌≡◌ {A = Option ℕ} None (Some t) = e ∙ cond-false (ltb 1048576 t) None (Some t) y in let w : ◌≡◌ {A = ℕ} 0 1 = cc in absurd (omega arith)) (cases_Bool (ltb 1048576 t))

pub counted_some : (t n : ℕ) → Some n ≡ cond (ltb 1048576 t) None (Some t) → (n ≡ t) × (t ≤ 1048576)
counted_some t n e = ⊎_elim
    (λ y. let z : Some n ≡ None = e ∙ cond-true (ltb 1048576 t) None (Some t) y in let w : ◌≡◌ {A = ℕ} 0 1 = cc in absurd (omega arith))
    (λ y. let z : Some n ≡ Some t = e ∙ cond-false (ltb 1048576 t) None (Some t) y in ((let w : n ≡ t = cc in w), ltb-false 1048576 t y))
    (cases_Bool (ltb 1048576 t))

pub cramped : (n : ℕ) (p : Places) → Lacks n p → scant n p ≡ true
cramped n p (inl l) = or_left (ltb p.corners n) _ (lt-ltb p.corners n l)
cramped n p (inr (inl l)) = or_right (ltb p.corners n) _ (or_left (ltb p.next n) _ (lt-ltb p.next n l))
cramped n p (inr (inr (inl l))) = or_right (ltb p.corners n) _ (or_right (ltb p.next n) _ (or_left (ltb p.prev n) (ltb p.twin n) (lt-ltb p.prev n l)))
cramped n p (inr (inr (inr l))) = or_right (ltb p.corners n) _ (or_right (ltb p.next n) _ (or_right (ltb p.prev n) (ltb p.twin n) (lt-ltb p.twin n l)))

pub finish : (s : Sheet) (a b c x y z : List ℕ) (r : Result (Unit {0}) SkinFault) (n : ℕ) → n ≡ darts s → None ≡ smallest (length s.lengths) (odd s.lengths) → darts s ≤ 1048576 →
    scant n (places s a b c) ≡ false → r ≡ judged s tt → Tell s (or_zero r) x y z →
    Closed s a b c (x ++ drop n a) (y ++ drop n b) (z ++ drop n c) (told n r)
finish s a b c x y z r n e faces few room j t =
    subst (λ (n : ℕ). Closed s a b c (x ++ drop n a) (y ++ drop n b) (z ++ drop n c) (told n r)) (sym e)
    (settled s a b c _ _ _ r faces few (subst (λ (n : ℕ). scant n (places s a b c) ≡ false) e room) j
    (fronted (darts s) _ x a _ t.next refl) (fronted (darts s) _ y b _ t.prev refl) (fronted (darts s) _ z c _ t.twin refl))

pub cut_short : (s : Sheet) (a b c : List ℕ) (n : ℕ) → n ≡ darts s → None ≡ smallest (length s.lengths) (odd s.lengths) → darts s ≤ 1048576 →
    scant n (places s a b c) ≡ true → Closed s a b c a b c (Err (Short n))
cut_short s a b c n e faces few room =
    subst (λ (n : ℕ). Closed s a b c a b c (Err (Short n))) (sym e)
    (untouched s a b c (Short (darts s)) (too_short s _ faces few (subst (λ (n : ℕ). scant n (places s a b c) ≡ true) e room)) refl)
