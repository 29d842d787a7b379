-- The headline: what the report of a run says of each common tick of each pair.
use Rattle.std.specs.Prelude.{◌≡◌, ◌↔◌, ℕ, true, List, [], ◌∷◌, ◌++◌, Option, Some, Ok, All, Any, IfSome}
use Rattle.cj_io.specs.declared.file.FileBytes.{FileBytes}
use Rattle.cj_case.specs.PlainProblems.{PlainProblem}
use Rattle.cj_case.specs.Leaves.{PlainLeaf}
use Rattle.cj_hermite.specs.ObjectsAtTicks.{OfObjectsAt}
use Rattle.cj_meet.specs.Closest.{HasNearest, PlainClosest, closest_of}
use Rattle.cj_cells.specs.Lists.{list_candidates}
use Rattle.cj_meet.specs.Encounters.{encounters_of, first_object, second_object}
use Rattle.cj_rtn.specs.Exact.{IsNearlyAt}
use Rattle.cj_rtn.specs.Relative.{object_relative}
use Rattle.cj_report.specs.Report.{report_of, told}
use Rattle.cj_report.specs.Summary.{kept_line}
use Rattle.cj_words.specs.Commands.{PlainRescreening, PlainScreening}
use Rattle.cj_words.specs.Settings.{PlainSettings}
use Rattle.cj_coverage.specs.Coverage.{HasAll, IsCovered, IsIn, covered_spans}
use Rattle.cj_inputs.specs.Coverings.{case_covered, cases_covered}
use Rattle.cj_inputs.specs.Updates.{PlainUpdating}
use Rattle.cj_outputs.specs.Again.{IsAcceptedLater}
use Rattle.cj_outputs.specs.Either.{PlainAnyCertificate, AnySplits, IsAcceptedFor, is_brief, text_in}
use Rattle.cj_outputs.specs.Messages.{has_message}
use Rattle.cj_outputs.specs.Outcome.{cert_output, encounters_in, kept_unchanged, list_anew, outputs_of_changes, report_output, summary_with, tells_of, uncovered_told}
use Rattle.cj_outputs.specs.SpanSplits.{SplitsChangedTicks, SplitsTicks, StillSo}

-- The bytes are the text of a certificate that is accepted for the case. Whatever certificate is accepted for it, the certificate's cells
-- split the common ticks of every pair.
pub record Certifies (case : PlainProblem) (bytes : List ℕ) : Type 0 where
  pub certificate : PlainAnyCertificate
  pub text : bytes ≡ text_in certificate
  pub accepted : IsAcceptedFor case certificate
  pub implies : AnySplits case

-- At the closest approach of an encounter each component of the relative state of its objects, where there is one, is within one millimetre, or
-- one millimetre per second, of the exact one.
pub record HasExactRelative (case : PlainProblem) (encounter : List PlainLeaf) : Type 0 where
  pub at : PlainClosest
  pub is : closest_of case encounter ≡ Some at
  pub law : OfObjectsAt case (first_object encounter) (second_object encounter) at.tick
      (λ c d. IfSome (object_relative case (first_object encounter) (second_object encounter) at.tick) (IsNearlyAt c d at.tick))

-- a tick is in a covered span of an object exactly where it is one of the window and the object has a state there
abbrev pub CoverExactly : PlainProblem → Type 0
CoverExactly case = All (λ e. (m : ℕ) → Any (IsIn m) (covered_spans e case.first case.last) ↔ IsCovered e case.first case.last m) case.tracks

-- each object has a state at each tick of the window
abbrev pub CoverAll : PlainProblem → Type 0
CoverAll case = All (λ e. HasAll e case.first case.last) case.tracks

-- The first bytes are the report of a case, with the encounters of its one-thread list, the closest approach of each and whether it has a message.
-- Their spans split the common ticks of every pair. Each pair is within its bound at its closest approach, and at no tick of the encounter
-- more than one millimetre nearer. What a message may tell of their relative state there is exact to one millimetre, and to one millimetre per
-- second. The covered spans that may be told of an object hold the ticks of the window at which it has a state, and no others. The second bytes are
-- an accepted certificate of the case.
pub record ReportsOf (settings : PlainSettings) (case : PlainProblem) (bytes certificate : List ℕ) : Type 0 where
  pub text : bytes ≡ report_of case.first case.last case.threshold case.tracks (told (tells_of settings).sizes case.sizes) case.primaries (tells_of settings).coverage
      (closest_of case) (has_message case) (encounters_in case)
  pub split : SplitsTicks case (encounters_in case)
  pub nearest : All (HasNearest case) (encounters_in case)
  pub relative : All (HasExactRelative case) (encounters_in case)
  pub covered : CoverExactly case
  pub certified : Certifies case certificate

-- So they are of the case that was asked, whose objects cover its window where they have to. A check of the same files, with the bytes of the
-- certificate among them, accepts it.
pub record Reports (screening : PlainScreening) (files : List FileBytes) (bytes certificate : List ℕ) : Type 0 where
  pub case : PlainProblem
  pub read : case_covered files screening.settings ≡ Ok case
  pub whole : screening.settings.must_cover ≡ true → CoverAll case
  pub of_case : ReportsOf screening.settings case bytes certificate
  pub later : IsAcceptedLater screening.settings (is_brief screening.format) files certificate

-- The new outputs are such a report and such a certificate, followed by further outputs.
pub record IsScreened (screening : PlainScreening) (files old : List FileBytes) (new : Option (List FileBytes)) : Type 0 where
  pub bytes : List ℕ
  pub certificate : List ℕ
  pub report : Reports screening files bytes certificate
  pub further : List FileBytes
  pub put : new ≡ Some (old ++ report_output bytes ∷ cert_output certificate ∷ further)

-- The new outputs are a report and a certificate of the updated files, then messages, and last the summary, behind which stands how many pairs are
-- kept and unchanged.
pub record IsRescreened (asked : PlainRescreening) (files old : List FileBytes) (new : Option (List FileBytes)) : Type 0 where
  pub cases : PlainUpdating
  pub read : cases_covered files asked ≡ Ok cases
  pub whole : asked.screening.settings.must_cover ≡ true → CoverAll cases.new
  pub bytes : List ℕ
  pub certificate : List ℕ
  pub report : ReportsOf asked.screening.settings cases.new bytes certificate
  pub messages : List FileBytes
  pub put : new ≡ Some (old ++ report_output bytes ∷ cert_output certificate ∷ (messages
      ++ summary_with (kept_line (kept_unchanged cases.base cases.new) ++ uncovered_told (tells_of asked.screening.settings) cases.new) cases.new
      (list_candidates cases.new) ∷ []))

-- The new outputs are the report of those pairs of the updated files alone that are not unchanged, and a summary of it. Its spans split the common
-- ticks of these pairs. Each pair is within its bound at its closest approach, and at no tick of the encounter more than one millimetre nearer. The
-- covered spans that may be told of an object hold the ticks of the window at which it has a state, and no others. What an earlier report of the base
-- files says of a pair stays true of the unchanged pair that it is.
pub record IsChanged (asked : PlainRescreening) (files old : List FileBytes) (new : Option (List FileBytes)) : Type 0 where
  pub cases : PlainUpdating
  pub read : cases_covered files asked ≡ Ok cases
  pub whole : asked.screening.settings.must_cover ≡ true → CoverAll cases.new
  pub split : SplitsChangedTicks cases.base cases.new (encounters_of (list_anew cases.base cases.new))
  pub nearest : All (HasNearest cases.new) (encounters_of (list_anew cases.base cases.new))
  pub covered : CoverExactly cases.new
  pub still_so : StillSo cases.base cases.new
  pub put : new ≡ Some (old ++ outputs_of_changes (tells_of asked.screening.settings) cases.new (kept_unchanged cases.base cases.new)
      (list_anew cases.base cases.new))
