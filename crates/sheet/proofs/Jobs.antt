-- What reading a job means.
use Rattle.std.proofs.Common.{◌≡◌, ℕ, ◌≤◌, List, ◌++◌, length, Ok, Err, codes, decimal, Result, sym, refl, ap, ◌∙◌, subst, inl, inr, append-nil, arith}
use Rattle.sheet.specs.declared.fault.TextFault.{TextFault}
use Rattle.sheet.specs.declared.fault.TextFault.TheVariants as fault
use Rattle.sheet.specs.declared.record.Sizes.{Sizes}
use Rattle.sheet.specs.declared.record.JobSizes.{JobSizes}
use Rattle.sheet.specs.Form.{gives, judge, after, then, blank, line_end}
use Rattle.sheet.specs.Sheet.{Sheet, sheet, sheet_text}
use Rattle.sheet.proofs.Grammar.{Spelled, s_token, s_natural, Parted}
use Rattle.sheet.specs.Read.{Tables, sizes, holding, stored, settled, read, ReadsSheet}
use Rattle.sheet.specs.Job.{Job, job_line, job, job_text, JobRanged, job_sizes, headed, settled_job, read_job, JobLaw, ReadsJob}
use Rattle.sheet.proofs.Forms.{judge_after, never, ok_is}
use Rattle.sheet.proofs.Complete.{parted_sheet, parted_after, run_job}
use Rattle.sheet.proofs.Spellings.{two, said, retold, sheet_only, sheet_every}
use Rattle.sheet.proofs.Places.{err_is, Fillable, Last, fillable_retold}
use Rattle.sheet.proofs.Texts.{accepted, taken, one_text, past_limit, off_form}
use Rattle.sheet.proofs.Readings.{after_ok, sheet_ends, fillable_sheet, stored_ok, stored_short}

abbrev of_job : ℕ → ℕ → Sheet → Job
of_job d l s = record { degree = d; levels = l; of = s }

parted_job : Parted job
parted_job = (inr (run_job, refl), (inl (32, refl, refl), (omega arith, λ d. (refl, (inl (32, refl, refl), (omega arith, λ l. (refl, (inl (10, refl, refl), parted_after sheet (λ s. gives (of_job d l s)) parted_sheet (λ s. tt)))))))))

fillable_job : Fillable job
unfolding Fillable Last
fillable_job = (refl, (refl, (omega arith, λ d. (refl, (omega arith, λ l. (refl, fillable_retold sheet (of_job d l) fillable_sheet))))))

job_ends : (text : List ℕ) (p : ℕ) (j : Job) (q : ℕ) → judge job text p ≡ Ok (j, q) → length text ≤ q
job_ends text p j q e =
    let a = after_ok job_line (λ h. after sheet (λ s. gives (of_job h.0 h.1 s))) text p j q e in
    go (of_job a.0.0 a.0.1) a.1 (judge sheet text a.1) refl (sym (judge_after sheet (λ s. gives (of_job a.0.0 a.0.1 s)) text a.1) ∙ a.2)
  where
    go : (g : Sheet → Job) (r : ℕ) (x : Result (Sheet × ℕ) TextFault) → judge sheet text r ≡ x → then x (λ s. judge (gives (g s.0)) text s.1) ≡ Ok (j, q) → length text ≤ q
    go g r (Ok s) h e = subst (λ n. length text ≤ n) (ap (λ x. x.1) (ok_is _ _ e)) (sheet_ends text r s.0 s.1 h)
    go g r (Err x) h e = absurd (never _ _ e)

job_only : (j : Job) (bs : List ℕ) → Spelled job j bs → (bs ≡ job_text j) × JobRanged j
job_only j bs (s_token (s_token (s_natural d l h (s_token (s_natural m k g (s_token s)))))) =
    let t = two sheet (λ s. gives (of_job d m s)) s in
    let e = said t.second in
    let o = sheet_only t.first in (
      (λ i. codes "job" ++ (blank ++ (decimal d ++ (blank ++ (decimal m ++ (line_end ++ (t.whole ∙ (λ z. o.0 z ++ e.1 z) ∙ append-nil (sheet_text t.a)) i)))))) ∙ ap job_text e.0,
      subst JobRanged e.0 (record { some_degree = l; low_degree = h; few_levels = g; sheet_in = o.1 }),
    )

job_every : (j : Job) → JobRanged j → Spelled job j (job_text j)
job_every j r =
    s_token (s_token (s_natural j.degree r.some_degree r.low_degree (s_token (s_natural j.levels (omega arith) r.few_levels (s_token
    (retold (sheet_every j.of r.sheet_in) (of_job j.degree j.levels)))))))

headed_ok : (d l : ℕ) (x : Result Sizes TextFault) (n : JobSizes) → headed d l x ≡ Ok n → (m : Sizes) × (x ≡ Ok m) × (n ≡ job_sizes d l m)
headed_ok d l (Ok m) n e = (m, refl, sym (ok_is _ _ e))
headed_ok d l (Err x) n e = absurd (never _ _ e)

headed_err : (d l : ℕ) (x : Result Sizes TextFault) (y : TextFault) → headed d l x ≡ Err y → x ≡ Err y
headed_err d l (Ok m) y e = absurd (never _ _ (sym e))
headed_err d l (Err x) y e = ap (λ z. Err z) (err_is _ _ e)

law : (text : List ℕ) (t : Tables) → JobLaw text t (read_job text t).0 (read_job text t).1
law text t = record {
  only = λ n e. go (judge job text 0) refl n e;
  every = λ j r e. ap (λ x. settled_job x t) (taken job job_text JobRanged job_only job_every parted_job fillable_job job_ends text 0 j r e);
  one = one_text job job_text JobRanged job_only job_every parted_job fillable_job job_ends;
  limit = λ p e. past_limit job job_text JobRanged job_only job_every parted_job fillable_job job_ends text 0 p (declines (judge job text 0) (fault.Limit p) (λ n z. let y : ◌≡◌ {A = ℕ} 0 1 = cc z in absurd (omega arith)) e);
  form = λ p e. off_form job job_text JobRanged job_only job_every parted_job fillable_job job_ends text 0 p (declines (judge job text 0) (fault.Form p) (λ n z. let y : ◌≡◌ {A = ℕ} 0 1 = cc z in absurd (omega arith)) e);
}
  where
    go : (x : Result (Job × ℕ) TextFault) → judge job text 0 ≡ x → (n : JobSizes) → (settled_job x t).0 ≡ Ok n → (j : Job) × JobRanged j × (text ≡ job_text j) × (n ≡ job_sizes j.degree j.levels (sizes j.of)) × ((settled_job x t).1 ≡ holding j.of t)
    go (Ok r) j n e =
        let a = accepted job job_text JobRanged job_only job_every parted_job fillable_job job_ends text 0 r.0 r.1 j in
        let h = headed_ok r.0.degree r.0.levels (stored r.0.of t).0 n e in
        let o = stored_ok r.0.of t h.0 h.1 in
        (r.0, a.1, a.0, h.2 ∙ ap (job_sizes r.0.degree r.0.levels) o.0, o.1)
    go (Err x) j n e = absurd (never _ _ e)

    declines : (x : Result (Job × ℕ) TextFault) (y : TextFault) → ((n : ℕ) → y ≡ fault.Short n → ⊥) → (settled_job x t).0 ≡ Err y → x ≡ Err y
    declines (Err z) y n e = ap (λ z. Err z) (err_is _ _ e)
    declines (Ok r) y n e = let m = stored_short r.0.of t y (headed_err r.0.degree r.0.levels (stored r.0.of t).0 y e) in absurd (n m.0 m.1)

-- a text that is judged to be a job is that job's text
pub job_text_lem : (text : List ℕ) (j : Job) (q : ℕ) → judge job text 0 ≡ Ok (j, q) → (text ≡ job_text j) × JobRanged j
job_text_lem text j q e =
    let a = accepted job job_text JobRanged job_only job_every parted_job fillable_job job_ends text 0 j q e in
    (a.0, a.1)

pub told : (text : List ℕ) (t : Tables) (r : Result JobSizes TextFault) (u : Tables) → (r, u) ≡ read_job text t → ReadsJob text t r u
told text t r u e = record { outcome = e; law = subst (λ x. JobLaw text t x.0 x.1) (sym e) (law text t) }

-- a job is its line and its sheet
pub line_err : (text : List ℕ) (t : Tables) (r : Result JobSizes TextFault) (e : TextFault) → r ≡ Err e → judge job_line text 0 ≡ Err e → ReadsJob text t r t
line_err text t r e h j =
    let g : judge job text 0 ≡ Err e = judge_after job_line (λ h. after sheet (λ s. gives (of_job h.0 h.1 s))) text 0 ∙ ap (λ x. then x (λ h. judge (after sheet (λ s. gives (of_job h.0.0 h.0.1 s))) text h.1)) j in
    told text t r t (ap (λ x. (x, t)) h ∙ sym (ap (λ x. settled_job x t) g))

module _ (text : List ℕ) (t : Tables) (d l at : ℕ) (j : judge job_line text 0 ≡ Ok ((d, l), at)) (n : Result Sizes TextFault) (u : Tables) (o : ReadsSheet text at t n u) where
  is : judge job text 0 ≡ then (judge sheet text at) (λ s. judge (gives (of_job d l s.0)) text s.1)
  is =
      judge_after job_line (λ h. after sheet (λ s. gives (of_job h.0 h.1 s))) text 0
      ∙ ap (λ x. then x (λ h. judge (after sheet (λ s. gives (of_job h.0.0 h.0.1 s))) text h.1)) j
      ∙ judge_after sheet (λ s. gives (of_job d l s)) text at

  all : read_job text t ≡ (headed d l (read text at t).0, (read text at t).1)
  all = ap (λ x. settled_job x t) is ∙ go (judge sheet text at)
    where
      go : (x : Result (Sheet × ℕ) TextFault) → settled_job (then x (λ s. judge (gives (of_job d l s.0)) text s.1)) t ≡ (headed d l (settled x t).0, (settled x t).1)
      go (Ok s) = refl
      go (Err e) = refl

  pub read_job_lem : (r : Result JobSizes TextFault) → r ≡ headed d l n → ReadsJob text t r u
  read_job_lem r e = told text t r u ((λ i. ((e ∙ ap (λ x. headed d l x.0) o.outcome) i, (o.outcome i).1)) ∙ sym all)
