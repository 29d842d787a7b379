-- What a check needs of the files of a folder: the case that is asked, and the bytes of the certificate, and of the report where one is named.
use Rattle.std.specs.Prelude.{ℕ, List, Option, Some, None, Result, Ok, Err, option_map}
use Rattle.cj_io.specs.declared.file.FileBytes.{FileBytes}
use Rattle.cj_io.specs.Files.{bytes_of, names_of}
use Rattle.cj_words.specs.Commands.{PlainChecking}
use Rattle.cj_words.specs.Limits.{most_certificate_bytes}
use Rattle.cj_case.specs.PlainProblems.{PlainProblem}
use Rattle.cj_case.specs.Problems.{plain_problem}
use Rattle.cj_status.specs.declared.status.Status.{Status}
use Rattle.cj_status.specs.declared.status.Status.TheVariants.{NotAccepted}
use Rattle.cj_status.specs.declared.status.CertificateCause.{CertificateCause}
use Rattle.cj_status.specs.declared.status.CertificateCause.TheVariants.{NoFile, NoReport}
use Rattle.cj_status.specs.Steps.{◌>>=◌}
use Rattle.cj_inputs.specs.declared.check_inputs.CheckInputs.{CheckInputs}
use Rattle.cj_inputs.specs.ObjectSizes.{first_named}
use Rattle.cj_inputs.specs.Readings.{within}
use Rattle.cj_inputs.specs.Updates.{case_with_updates}

-- at most so many bytes of the file with this number, which has this name; for want of one there is this cause
abbrev pub input_at : ℕ → CertificateCause → List FileBytes → List ℕ → Option ℕ → Result (List ℕ) Status
input_at most missing files name None = Err (NotAccepted 0 missing)
input_at most missing files name (Some number) = within most name (bytes_of files number)

-- the bytes of the first file with this name
abbrev pub input_named : ℕ → CertificateCause → List FileBytes → List ℕ → Result (List ℕ) Status
input_named most missing files name = input_at most missing files name (first_named name (names_of files))

-- those of the file with this number, as a certificate
abbrev pub certificate_at : ℕ → List FileBytes → List ℕ → Option ℕ → Result (List ℕ) Status
certificate_at most files name number = input_at most NoFile files name number

-- the bytes of the first file with the certificate's name
unfoldable pub certificate_named : ℕ → List FileBytes → List ℕ → Result (List ℕ) Status
certificate_named most files name = certificate_at most files name (first_named name (names_of files))

-- the bytes of the first file with the report's name
unfoldable pub report_named : ℕ → List FileBytes → List ℕ → Result (List ℕ) Status
report_named most files name = input_named most NoReport files name

-- the same where a report is named
abbrev pub report_if_named : ℕ → List FileBytes → Option (List ℕ) → Result (Option (List ℕ)) Status
report_if_named most files None = Ok None
report_if_named most files (Some name) = report_named most files name >>= λ bytes. Ok (Some bytes)

-- a case, the bytes of a certificate for it, and those of a report, where there is one
pub record PlainInputs : Type 0 where
  pub case : PlainProblem
  pub bytes : List ℕ
  pub report : Option (List ℕ)

abbrev pub plain_inputs : CheckInputs → PlainInputs
plain_inputs inputs = record { case = plain_problem inputs.problem; bytes = inputs.certificate.items; report = option_map (λ report. report.items) inputs.report }

-- the case that is asked, then the bytes of the certificate, and then those of the report, or the first cause for which there is none
unfoldable pub inputs_asked : List FileBytes → PlainChecking → Result PlainInputs Status
inputs_asked files checking = do
  case ← case_with_updates files checking.settings checking.update
  bytes ← certificate_named (most_certificate_bytes checking.settings.large) files checking.certificate
  report ← report_if_named (most_certificate_bytes checking.settings.large) files checking.report
  Ok (record { case = case; bytes = bytes; report = report })
