-- What judging by a form means, in terms of the texts of what the form says.
use Rattle.std.proofs.Common.{◌≡◌, ℕ, ◌+◌, ◌≤◌, List, ◌++◌, length, drop, Ok, Err, sym, refl, ap, ◌∙◌, subst, append-nil}
use Rattle.std.proofs.lemmas.List.{drop_all}
use Rattle.sheet.specs.declared.fault.TextFault.{TextFault}
use Rattle.sheet.specs.declared.fault.TextFault.TheVariants as fault
use Rattle.sheet.specs.Form.{Form, judge}
use Rattle.sheet.proofs.Grammar.{Spelled, Parted}
use Rattle.sheet.specs.First.{FirstWrong, PastLimit, OffForm}
use Rattle.sheet.proofs.Forms.{ok_is}
use Rattle.sheet.proofs.Sound.{sound}
use Rattle.sheet.proofs.Complete.{complete, small}
use Rattle.sheet.proofs.Places.{Wrong, Fillable, fault_place, first_wrong}

module _ {A : Type 0} (f : Form A) (tx : A → List ℕ) (In : A → Type 0)
    (only : (a : A) (bs : List ℕ) → Spelled f a bs → (bs ≡ tx a) × In a)
    (every : (a : A) → In a → Spelled f a (tx a))
    (parted : Parted f) (fillable : Fillable f)
    (ends : (text : List ℕ) (p : ℕ) (a : A) (q : ℕ) → judge f text p ≡ Ok (a, q) → length text ≤ q) where
  -- what is accepted is the text of something in range
  pub accepted : (text : List ℕ) (p : ℕ) (a : A) (q : ℕ) → judge f text p ≡ Ok (a, q) → (drop p text ≡ tx a) × In a
  accepted text p a q e =
      let r = sound f (small f parted) text p a q e in
      let o = only _ _ r.spelled in
      (r.part ∙ (λ i. o.0 i ++ drop_all q text (ends text p a q e) i) ∙ append-nil (tx a), o.1)

  -- each such text is accepted
  pub taken : (text : List ℕ) (p : ℕ) (a : A) → In a → drop p text ≡ tx a → judge f text p ≡ Ok (a, p + length (tx a))
  taken text p a i e = complete (every a i) parted text p e

  -- and is the text of nothing else
  pub one_text : (a b : A) → In a → In b → tx a ≡ tx b → a ≡ b
  one_text a b i j e = ap (λ x. x.0) (ok_is _ _ (sym (taken (tx b) 0 a i (sym e)) ∙ taken (tx b) 0 b j refl))

  -- any other is declined at its first wrong token
  abbrev wrong_at : (text : List ℕ) (at : ℕ) (e : TextFault) → Wrong f text at e → FirstWrong tx In text at (fault_place e)
  wrong_at text at e w =
      let o = only _ _ w.begun.2 in
      record {
        before = w.before;
        cut = w.cut;
        far = w.far;
        begun = (w.begun.0, w.begun.1, o.1, sym o.0);
        wrong = λ a rest i g. w.wrong a rest (subst (λ x. Spelled f a x) g (every a i));
      }

  pub past_limit : (text : List ℕ) (at p : ℕ) → judge f text at ≡ Err (fault.Limit p) → PastLimit tx In text at p
  past_limit text at p h =
      let w = first_wrong f parted fillable text at (fault.Limit p) h in
      let s = w.sort in
      let o = only _ _ s.2 in
      (wrong_at text at (fault.Limit p) w, s.0, s.1, o.1, sym o.0, s.3)

  pub off_form : (text : List ℕ) (at p : ℕ) → judge f text at ≡ Err (fault.Form p) → OffForm tx In text at p
  off_form text at p h =
      let w = first_wrong f parted fillable text at (fault.Form p) h in
      (wrong_at text at (fault.Form p) w, λ a rest i g l. w.sort a rest (subst (λ x. Spelled f a x) g (every a i)) l)

  pub never_short : (text : List ℕ) (at n : ℕ) → judge f text at ≡ Err (fault.Short n) → ⊥
  never_short text at n h = (first_wrong f parted fillable text at (fault.Short n) h).sort
