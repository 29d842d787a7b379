-- What a rewriting says of the certificate that it puts.
use Rattle.std.specs.Prelude.{◌≡◌, ℕ, ◌≤◌, List, ◌++◌, length, Option, Some, None, Ok}
use Rattle.cj_io.specs.declared.file.FileBytes.{FileBytes}
use Rattle.cj_words.specs.Limits.{most_certificate_bytes}
use Rattle.cj_words.specs.Commands.{PlainChecking}
use Rattle.cj_case.specs.PlainProblems.{PlainProblem}
use Rattle.cj_inputs.specs.CheckInputs.{certificate_named}
use Rattle.cj_inputs.specs.Updates.{case_with_updates}
use Rattle.cj_outputs.specs.Again.{IsAcceptedLater}
use Rattle.cj_outputs.specs.Either.{PlainAnyCertificate, FitsIn, IsAcceptedFor, any_renewed, text_in}
use Rattle.cj_outputs.specs.Outcome.{outputs_renewed}

-- The bytes are the text of a certificate that is accepted for a case. This is the same certificate, one in full in version 2, which is accepted too.
pub record RenewedText (case : PlainProblem) (bytes : List ℕ) (renewed : PlainAnyCertificate) : Type 0 where
  pub certificate : PlainAnyCertificate
  pub text : bytes ≡ text_in certificate
  pub fits : FitsIn certificate
  pub accepted : IsAcceptedFor case certificate
  pub same : renewed ≡ any_renewed case certificate
  pub still : IsAcceptedFor case renewed

-- So are the bytes of the named file, for the case that was asked. Where no file may be an update, a check of the same files, with the text of the
-- new certificate among them, accepts it, where it is not longer than a check takes.
pub record Renews (checking : PlainChecking) (files : List FileBytes) (renewed : PlainAnyCertificate) : Type 0 where
  pub case : PlainProblem
  pub read : case_with_updates files checking.settings checking.update ≡ Ok case
  pub bytes : List ℕ
  pub named : certificate_named (most_certificate_bytes checking.settings.large) files checking.certificate ≡ Ok bytes
  pub holds : RenewedText case bytes renewed
  pub later : checking.update ≡ None → length (text_in renewed) ≤ most_certificate_bytes checking.settings.large
      → IsAcceptedLater checking.settings checking.brief files (text_in renewed)

-- the new outputs are its text and that it was rewritten
pub record IsRewritten (checking : PlainChecking) (files old : List FileBytes) (new : Option (List FileBytes)) : Type 0 where
  pub renewed : PlainAnyCertificate
  pub renews : Renews checking files renewed
  pub put : new ≡ Some (old ++ outputs_renewed renewed)
