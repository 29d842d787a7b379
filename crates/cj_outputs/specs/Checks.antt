-- What a check says that accepts a certificate, and of the report beside it.
use Rattle.std.specs.Prelude.{◌≡◌, ℕ, List, [], ◌∷◌, ◌++◌, Option, Some, Ok, All, IfSome}
use Rattle.cj_io.specs.declared.file.FileBytes.{FileBytes}
use Rattle.cj_words.specs.Limits.{most_certificate_bytes}
use Rattle.cj_words.specs.Commands.{PlainChecking}
use Rattle.cj_case.specs.PlainProblems.{PlainProblem}
use Rattle.cj_case.specs.Leaves.{PlainLeaf}
use Rattle.cj_meet.specs.Closest.{HasNearest, closest_of}
use Rattle.cj_meet.specs.Encounters.{encounters_of}
use Rattle.cj_report.specs.Report.{report_of, told}
use Rattle.cj_cert.specs.Splits.{CellsSplit}
use Rattle.cj_inputs.specs.CheckInputs.{certificate_named, report_named}
use Rattle.cj_inputs.specs.Updates.{case_with_updates}
use Rattle.cj_outputs.specs.Either.{PlainAnyCertificate, FitsIn, IsAcceptedFor, cells_in, text_in}
use Rattle.cj_outputs.specs.Messages.{has_message}
use Rattle.cj_outputs.specs.Outcome.{accepted_output, tells_of}
use Rattle.cj_outputs.specs.SpanSplits.{SplitsTicks}
use Rattle.cj_report.specs.declared.tells.Tells.{Tells}

-- The bytes are the text of a certificate that is accepted for a case, and its cells split the common ticks of every pair.
pub record AcceptedText (case : PlainProblem) (bytes : List ℕ) : Type 0 where
  pub certificate : PlainAnyCertificate
  pub text : bytes ≡ text_in certificate
  pub fits : FitsIn certificate
  pub accepted : IsAcceptedFor case certificate
  pub split : CellsSplit case (cells_in certificate)

-- The bytes are the report of a case with the encounters of these cells, the closest approach of each and whether it has a message. Their spans
-- split the common ticks of every pair. Each pair is within its bound at its closest approach, and at no tick of the encounter more than one
-- millimetre nearer.
pub record AcceptedReport (tells : Tells) (case : PlainProblem) (cells : List PlainLeaf) (bytes : List ℕ) : Type 0 where
  pub text : bytes ≡ report_of case.first case.last case.threshold case.tracks (told tells.sizes case.sizes) case.primaries tells.coverage
      (closest_of case) (has_message case) (encounters_of cells)
  pub split : SplitsTicks case (encounters_of cells)
  pub nearest : All (HasNearest case) (encounters_of cells)

-- Those of the file with this name are so. The report tells the sizes where the command line names a file of them.
pub record VouchesReport (checking : PlainChecking) (files : List FileBytes) (case : PlainProblem) (cells : List PlainLeaf) (name : List ℕ) : Type 0 where
  pub bytes : List ℕ
  pub named : report_named (most_certificate_bytes checking.settings.large) files name ≡ Ok bytes
  pub holds : AcceptedReport (tells_of checking.settings) case cells bytes

-- Those of the named certificate are accepted, for the case that was asked; and where a report is named, it is that of the certificate's cells.
pub record Vouches (checking : PlainChecking) (files : List FileBytes) : Type 0 where
  pub case : PlainProblem
  pub read : case_with_updates files checking.settings checking.update ≡ Ok case
  pub bytes : List ℕ
  pub named : certificate_named (most_certificate_bytes checking.settings.large) files checking.certificate ≡ Ok bytes
  pub holds : AcceptedText case bytes
  pub reported : IfSome checking.report (VouchesReport checking files case (cells_in holds.certificate))

-- the new output says so
pub record IsChecked (checking : PlainChecking) (files old : List FileBytes) (new : Option (List FileBytes)) : Type 0 where
  pub vouched : Vouches checking files
  pub put : new ≡ Some (old ++ accepted_output ∷ [])
