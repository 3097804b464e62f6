-- What the intake finds in a text, and what it prints of that.
use Rattle.std.specs.Prelude.{ℕ, List, ◌++◌, Ok, Err, codes, decimal, Result}
use Rattle.std.specs.Fmt.{signed_decimal}
use Rattle.skin.specs.declared.count.Counts.{Counts}
use Rattle.refusal.specs.Lines.{line}
use Rattle.closing.specs.declared.fault.SkinFault.{SkinFault}
use Rattle.closing.specs.Refusals.{refused_by}
use Rattle.intake.specs.declared.survey.Survey.{Survey}
use Rattle.intake.specs.declared.report.Report.{Report}
use Rattle.intake.specs.declared.report.Report.TheVariants.{Closed, Declined}
use Rattle.intake.specs.Surveys.{survey_of}

abbrev pub told : Result Survey SkinFault → Report
told (Ok found) = Closed found
told (Err fault) = Declined (refused_by fault)

abbrev pub report_of : List ℕ → Report
report_of text = told (survey_of text)

abbrev pub tally_text : Counts → List ℕ
tally_text c =
    codes "vertices " ++ (decimal c.vertices ++ (codes "\nedges " ++ (decimal c.edges ++ (codes "\nfaces " ++ (decimal c.faces ++ codes "\n")))))

abbrev pub report_text : Report → List ℕ
report_text (Closed found) =
    codes "darts " ++ (decimal found.darts ++ (codes "\n" ++ (tally_text found.counts
    ++ (codes "vertices - edges + faces " ++ (signed_decimal found.figure ++ codes "\n")))))
report_text (Declined refused) = line refused
