-- The form of a job, and what reading one does.
use Rattle.std.specs.Prelude.{◌≡◌, ℕ, ◌≤◌, List, ◌++◌, Ok, Err, codes, decimal, Result}
use Rattle.sheet.specs.declared.fault.TextFault.{TextFault}
use Rattle.sheet.specs.declared.fault.TextFault.TheVariants as fault
use Rattle.sheet.specs.declared.record.Sizes.{Sizes}
use Rattle.sheet.specs.declared.record.JobSizes.{JobSizes}
use Rattle.sheet.specs.Form.{Form, gives, token, natural, judge, after, blank, line_end}
use Rattle.sheet.specs.Sheet.{Sheet, sheet, sheet_text, Ranged}
use Rattle.sheet.specs.First.{PastLimit, OffForm}
use Rattle.sheet.specs.Read.{Tables, sizes, holding, stored}

-- how many averages a split, how many splits, and of what
pub record Job : Type 0 where
  pub degree : ℕ
  pub levels : ℕ
  pub of : Sheet

-- job D L
abbrev pub job_line : Form (ℕ × ℕ)
job_line = token (codes "job") (token blank (natural 1 9 (λ d. token blank (natural 0 8 (λ l. token line_end (gives (d, l)))))))

-- and then a sheet
abbrev pub job : Form Job
job = after job_line (λ h. after sheet (λ s. gives (record { degree = h.0; levels = h.1; of = s })))

abbrev pub job_text : Job → List ℕ
job_text j = codes "job" ++ (blank ++ (decimal j.degree ++ (blank ++ (decimal j.levels ++ (line_end ++ sheet_text j.of)))))

pub record JobRanged (j : Job) : Type 0 where
  pub some_degree : 1 ≤ j.degree
  pub low_degree : j.degree ≤ 9
  pub few_levels : j.levels ≤ 8
  pub sheet_in : Ranged j.of

abbrev pub job_sizes : ℕ → ℕ → Sizes → JobSizes
job_sizes d l n = record { degree = d; levels = l; sizes = n }

abbrev pub headed : ℕ → ℕ → Result Sizes TextFault → Result JobSizes TextFault
headed d l (Ok n) = Ok (job_sizes d l n)
headed d l (Err e) = Err e

abbrev pub stored_job : Job → Tables → Result JobSizes TextFault × Tables
stored_job j t = (headed j.degree j.levels (stored j.of t).0, (stored j.of t).1)

abbrev pub settled_job : Result (Job × ℕ) TextFault → Tables → Result JobSizes TextFault × Tables
settled_job (Ok r) t = stored_job r.0 t
settled_job (Err e) t = (Err e, t)

-- the first wrong token of the whole text declines, and then the tables
abbrev pub read_job : List ℕ → Tables → Result JobSizes TextFault × Tables
read_job text t = settled_job (judge job text 0) t

-- as the law of sheets, byte places counting from the start of the job's text
pub record JobLaw (text : List ℕ) (before : Tables) (r : Result JobSizes TextFault) (after : Tables) : Type 0 where
  pub only : (n : JobSizes) → r ≡ Ok n → (j : Job) × JobRanged j × (text ≡ job_text j) × (n ≡ job_sizes j.degree j.levels (sizes j.of)) × (after ≡ holding j.of before)
  pub every : (j : Job) → JobRanged j → text ≡ job_text j → (r, after) ≡ stored_job j before
  pub one : (j i : Job) → JobRanged j → JobRanged i → job_text j ≡ job_text i → j ≡ i
  pub limit : (p : ℕ) → r ≡ Err (fault.Limit p) → PastLimit job_text JobRanged text 0 p
  pub form : (p : ℕ) → r ≡ Err (fault.Form p) → OffForm job_text JobRanged text 0 p

pub record ReadsJob (text : List ℕ) (before : Tables) (r : Result JobSizes TextFault) (after : Tables) : Type 0 where
  pub outcome : (r, after) ≡ read_job text before
  pub law : JobLaw text before r after
