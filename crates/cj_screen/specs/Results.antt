-- What a run is to put.
use Rattle.std.specs.Prelude.{◌≡◌, true, false, List, [], ◌∷◌, ◌++◌, All, Ok}
use Rattle.cj_io.specs.declared.file.FileBytes.{FileBytes}
use Rattle.cj_cells.specs.Lists.{list_candidates}
use Rattle.cj_inputs.specs.Alone.{plain_tracks}
use Rattle.cj_inputs.specs.Coverings.{cases_covered}
use Rattle.cj_inputs.specs.Updates.{PlainUpdating}
use Rattle.cj_meet.specs.Closest.{HasNearest}
use Rattle.cj_meet.specs.Encounters.{encounters_of}
use Rattle.cj_report.specs.Summary.{kept_line}
use Rattle.cj_words.specs.Commands.{PlainScreening, PlainCommand, Screens, Checks, Generates, Selfruns, Rewrites, Thins, Rescreens, PlainChecking, PlainRescreening, PlainThinning, plain_thinning}
use Rattle.cj_screen.specs.declared.results.Results.{Results}
use Rattle.cj_screen.specs.declared.results.Results.TheVariants.{Screened, Checked, Made, Selfrun, Rewritten, Thinned, Changed}
use Rattle.cj_outputs.specs.declared.changes.Changes.{Changes}
use Rattle.cj_outputs.specs.declared.findings.Findings.{Findings}
use Rattle.cj_outputs.specs.Changes.{AreChanges, changed_outputs_in}
use Rattle.cj_outputs.specs.Findings.{AreFound, cert_in, outputs_in, report_in, summary_in}
use Rattle.cj_outputs.specs.Checks.{Vouches}
use Rattle.cj_outputs.specs.EitherKept.{plain_any}
use Rattle.cj_screen.specs.Headline.{CoverAll, CoverExactly, Reports, ReportsOf}
use Rattle.cj_outputs.specs.Origins.{plain_origin}
use Rattle.cj_outputs.specs.Outcome.{accepted_output, kept_unchanged, list_anew, outputs_made, outputs_of_changes, outputs_renewed, summary_with, tells_of, uncovered_told}
use Rattle.cj_outputs.specs.SpanSplits.{SplitsChangedTicks, StillSo}
use Rattle.cj_outputs.specs.Rewrites.{Renews}
use Rattle.cj_outputs.specs.Thinned.{length_of, outputs_with_fewer}
use Rattle.cj_outputs.specs.Thinnings.{AreThinned}

-- the outputs of it, in the order in which they are put
abbrev pub outputs_due : Results → List FileBytes
outputs_due (Screened found origin) = outputs_in (plain_origin origin) found
outputs_due Checked = accepted_output ∷ []
outputs_due (Made catalogue) = outputs_made catalogue.items
outputs_due (Selfrun found) = summary_in found ∷ []
outputs_due (Rewritten certificate) = outputs_renewed (plain_any certificate)
outputs_due (Thinned lone thinning) = outputs_with_fewer (length_of (plain_thinning thinning)) (plain_tracks lone)
outputs_due (Changed changes) = changed_outputs_in changes

-- what is found is what the definitions give
abbrev pub AreDue : Results → Type 0
AreDue (Screened found origin) = AreFound found
AreDue Checked = Unit {0}
AreDue (Made catalogue) = Unit {0}
AreDue (Selfrun found) = AreFound found
AreDue (Rewritten certificate) = Unit {0}
AreDue (Thinned lone thinning) = Unit {0}
AreDue (Changed changes) = AreChanges changes

-- the first two outputs are the report and the certificate of files that are screened so
abbrev pub ReportsDue : PlainScreening → List FileBytes → Results → Type 0
ReportsDue screening files (Screened found origin) = Reports screening files (report_in found).bytes (cert_in found).bytes
ReportsDue screening files Checked = ⊥
ReportsDue screening files (Made catalogue) = ⊥
ReportsDue screening files (Selfrun found) = ⊥
ReportsDue screening files (Rewritten certificate) = ⊥
ReportsDue screening files (Thinned lone thinning) = ⊥
ReportsDue screening files (Changed changes) = ⊥

-- the certificate that was named is accepted
abbrev pub VouchesDue : PlainChecking → List FileBytes → Results → Type 0
VouchesDue checking files (Screened found origin) = ⊥
VouchesDue checking files Checked = Vouches checking files
VouchesDue checking files (Made catalogue) = ⊥
VouchesDue checking files (Selfrun found) = ⊥
VouchesDue checking files (Rewritten certificate) = ⊥
VouchesDue checking files (Thinned lone thinning) = ⊥
VouchesDue checking files (Changed changes) = ⊥

-- the certificate that was named is accepted, and this is what it is rewritten to
abbrev pub RenewsDue : PlainChecking → List FileBytes → Results → Type 0
RenewsDue checking files (Screened found origin) = ⊥
RenewsDue checking files Checked = ⊥
RenewsDue checking files (Made catalogue) = ⊥
RenewsDue checking files (Selfrun found) = ⊥
RenewsDue checking files (Rewritten certificate) = Renews checking files (plain_any certificate)
RenewsDue checking files (Thinned lone thinning) = ⊥
RenewsDue checking files (Changed changes) = ⊥

-- these are the tracks that are asked of the files, which stay within the length that was asked of where they were
abbrev pub ThinsDue : PlainThinning → List FileBytes → Results → Type 0
ThinsDue asked files (Screened found origin) = ⊥
ThinsDue asked files Checked = ⊥
ThinsDue asked files (Made catalogue) = ⊥
ThinsDue asked files (Selfrun found) = ⊥
ThinsDue asked files (Rewritten certificate) = ⊥
ThinsDue asked files (Thinned lone thinning) = AreThinned asked files (plain_tracks lone) × (plain_thinning thinning ≡ asked)
ThinsDue asked files (Changed changes) = ⊥

-- They are the outputs of the updated files, and their report and certificate say of them what those of a screening say.
pub record RescreensWith (asked : PlainRescreening) (files : List FileBytes) (found : Findings) : Type 0 where
  pub cases : PlainUpdating
  pub read : cases_covered files asked ≡ Ok cases
  pub whole : asked.screening.settings.must_cover ≡ true → CoverAll cases.new
  pub report : ReportsOf asked.screening.settings cases.new (report_in found).bytes (cert_in found).bytes
  pub summary : summary_in found
      ≡ summary_with (kept_line (kept_unchanged cases.base cases.new) ++ uncovered_told (tells_of asked.screening.settings) cases.new) cases.new
      (list_candidates cases.new)

abbrev pub RescreensDue : PlainRescreening → List FileBytes → Results → Type 0
RescreensDue asked files (Screened found origin) = RescreensWith asked files found
RescreensDue asked files Checked = ⊥
RescreensDue asked files (Made catalogue) = ⊥
RescreensDue asked files (Selfrun found) = ⊥
RescreensDue asked files (Rewritten certificate) = ⊥
RescreensDue asked files (Thinned lone thinning) = ⊥
RescreensDue asked files (Changed changes) = ⊥

-- They are the outputs of the pairs that are not unchanged, and say of them what those of a screening say.
pub record ChangesWith (asked : PlainRescreening) (files : List FileBytes) (found : Changes) : Type 0 where
  pub cases : PlainUpdating
  pub read : cases_covered files asked ≡ Ok cases
  pub whole : asked.screening.settings.must_cover ≡ true → CoverAll cases.new
  pub split : SplitsChangedTicks cases.base cases.new (encounters_of (list_anew cases.base cases.new))
  pub nearest : All (HasNearest cases.new) (encounters_of (list_anew cases.base cases.new))
  pub covered : CoverExactly cases.new
  pub still_so : StillSo cases.base cases.new
  pub outputs : changed_outputs_in found ≡ outputs_of_changes (tells_of asked.screening.settings) cases.new (kept_unchanged cases.base cases.new)
      (list_anew cases.base cases.new)

abbrev pub ChangesDue : PlainRescreening → List FileBytes → Results → Type 0
ChangesDue asked files (Screened found origin) = ⊥
ChangesDue asked files Checked = ⊥
ChangesDue asked files (Made catalogue) = ⊥
ChangesDue asked files (Selfrun found) = ⊥
ChangesDue asked files (Rewritten certificate) = ⊥
ChangesDue asked files (Thinned lone thinning) = ⊥
ChangesDue asked files (Changed changes) = ChangesWith asked files changes

-- what is due of a screening again: all outputs, or those of the pairs that are not unchanged
pub record AgainDue (asked : PlainRescreening) (files : List FileBytes) (results : Results) : Type 0 where
  pub whole : asked.changed ≡ false → RescreensDue asked files results
  pub changed : asked.changed ≡ true → ChangesDue asked files results

-- what is due of a command says of the files what the command asks
abbrev pub ShowsDue : PlainCommand → List FileBytes → Results → Type 0
ShowsDue (Screens screening) files results = ReportsDue screening files results
ShowsDue (Checks checking) files results = VouchesDue checking files results
ShowsDue (Generates recipe) files results = Unit {0}
ShowsDue (Selfruns selfrun) files results = Unit {0}
ShowsDue (Rewrites checking) files results = RenewsDue checking files results
ShowsDue (Thins thinning) files results = ThinsDue thinning files results
ShowsDue (Rescreens rescreening) files results = AgainDue rescreening files results
