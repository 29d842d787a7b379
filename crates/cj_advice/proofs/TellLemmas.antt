-- The fault line of a status prints the words of its cause.
use Rattle.std.proofs.Common.{◌≡◌, ◌∙◌, ◌++◌, ◌∷◌, [], ap, append_assoc, List, ℕ, Option, refl}
use Rattle.std.specs.Prelude.{IfSome}
use Rattle.cj_words.specs.declared.option.UsageFault.TheVariants as usage
use Rattle.cj_status.specs.Faults.{cause_rest, cause_text}
use Rattle.cj_status.specs.declared.status.FileCause.{FileCause}
use Rattle.cj_status.specs.declared.status.FileCause.TheVariants as refused
use Rattle.cj_status.specs.declared.status.LimitFault.TheVariants as faults
use Rattle.cj_status.specs.declared.status.Status.{Status}
use Rattle.cj_status.specs.declared.status.Status.TheVariants as status
use Rattle.cj_advice.specs.declared.cause.Cause.{Cause}
use Rattle.cj_advice.specs.declared.cause.Cause.TheVariants.{File}
use Rattle.cj_advice.specs.Causes.{Tells, cause_of, file_reason, file_word, front_of}

-- a reason has the words of the cause
reason_words : (cause : FileCause) → cause_text cause ≡ file_word (file_reason cause)
reason_words (refused.Oem cause) = refl
reason_words refused.MixedFrames = refl
reason_words (refused.Sizes cause) = refl
reason_words refused.NoSizes = refl
reason_words (refused.Primaries cause) = refl
reason_words refused.NoPrimaries = refl
reason_words (refused.Uncovered micros) = refl

told_file : (file : List ℕ) (line : ℕ) (cause : FileCause) → Tells (File (file_reason cause)) (status.BadFile file line cause)
told_file file line cause =
    let front = front_of (status.BadFile file line cause) in
    append_assoc (front ++ cause_text cause) (cause_rest cause) (10 ∷ []) ∙ ap (λ (word : List ℕ). front ++ word ++ (cause_rest cause ++ 10 ∷ [])) (reason_words cause)

told_cause : (s : Status) → IfSome (cause_of s) (λ cause. Tells cause s)
told_cause status.Ok = tt
told_cause (status.NotAccepted line cause) = refl
told_cause (status.Usage usage.Words) = refl
told_cause (status.Usage (usage.Value option)) = refl
told_cause (status.BadFile file line cause) = told_file file line cause
told_cause status.ReadFault = refl
told_cause status.WriteFault = refl
told_cause (status.Limit (faults.Objects count)) = refl
told_cause (status.Limit (faults.FileBytes file)) = refl
told_cause (status.Limit (faults.Nodes count)) = refl
told_cause (status.Limit (faults.Window length)) = refl
told_cause (status.Limit (faults.Slots count)) = refl
told_cause (status.Limit (faults.Cells limit)) = refl
told_cause (status.Limit (faults.Told limit)) = refl
told_cause status.OutOfMemory = refl

-- so it is of whatever cause is the status's
pub tells : (s : Status) (found : Option Cause) → found ≡ cause_of s → IfSome found (λ cause. Tells cause s)
tells s found is = rw is (told_cause s)
