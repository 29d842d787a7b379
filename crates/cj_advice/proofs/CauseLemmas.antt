-- Each cause is found by its words.
use Rattle.std.proofs.Common.{◌≡◌, ◌∙◌, ℕ, Bool, true, false, cond, List, [], ◌∷◌, Option, Some, ap, refl}
use Rattle.std.specs.Prelude.{IfSome, find}
use Rattle.std.specs.Str.{bytes_eq}
use Rattle.std.proofs.lemmas.Slice.Eq.{bytes_eq-Decides}
use Rattle.cj_epoch.specs.declared.fault.EpochFault.TheVariants as epoch
use Rattle.cj_kvn.specs.declared.lines.KvnCause.TheVariants as kvn
use Rattle.cj_formats.specs.declared.oem_cause.OemCause.TheVariants as oem
use Rattle.cj_formats.specs.declared.primaries_cause.PrimariesCause.TheVariants as primaries
use Rattle.cj_formats.specs.declared.sizes_cause.SizesCause.TheVariants as sizes
use Rattle.cj_formats.specs.declared.cert_cause.CertCause.TheVariants as certs
use Rattle.cj_formats.specs.declared.check_cause.CheckCause.TheVariants as checks
use Rattle.cj_status.specs.declared.status.CertificateCause.TheVariants as refusals
use Rattle.cj_advice.specs.declared.cause.Cause.{Cause}
use Rattle.cj_advice.specs.declared.cause.Cause.TheVariants.{Words, Value, File, Certificate, Limit, ReadFault, WriteFault, OutOfMemory}
use Rattle.cj_advice.specs.declared.cause.FileReason.TheVariants as files
use Rattle.cj_advice.specs.declared.cause.LimitCause.TheVariants.{Objects, FileBytes, Nodes, Window, Slots, Cells, Told}
use Rattle.cj_advice.specs.Causes.{word_of, every, cause_named}

each_found : (cause : Cause) → cause_named (word_of cause) ≡ Some cause
unfolding cause_named every
each_found Words = refl
each_found Value = refl
each_found (File (files.Oem oem.Name)) = refl
each_found (File (files.Oem (oem.Kvn kvn.NotPrintable))) = refl
each_found (File (files.Oem (oem.Kvn kvn.NoLineForm))) = refl
each_found (File (files.Oem oem.Order)) = refl
each_found (File (files.Oem oem.Version)) = refl
each_found (File (files.Oem oem.Twice)) = refl
each_found (File (files.Oem oem.Unknown)) = refl
each_found (File (files.Oem oem.Missing)) = refl
each_found (File (files.Oem oem.Interpolation)) = refl
each_found (File (files.Oem oem.ObjectChanged)) = refl
each_found (File (files.Oem oem.Center)) = refl
each_found (File (files.Oem oem.Frame)) = refl
each_found (File (files.Oem oem.TimeSystem)) = refl
each_found (File (files.Oem (oem.Epoch epoch.Form))) = refl
each_found (File (files.Oem (oem.Epoch epoch.Range))) = refl
each_found (File (files.Oem (oem.Epoch epoch.SecondSixty))) = refl
each_found (File (files.Oem (oem.Epoch epoch.TooFine))) = refl
each_found (File (files.Oem oem.Fields)) = refl
each_found (File (files.Oem oem.Number)) = refl
each_found (File (files.Oem oem.CoordinateRange)) = refl
each_found (File (files.Oem oem.RateRange)) = refl
each_found (File (files.Oem oem.TimesFall)) = refl
each_found (File (files.Oem oem.StepTooLong)) = refl
each_found (File (files.Oem oem.LeapSecond)) = refl
each_found (File (files.Oem oem.TooFewNodes)) = refl
each_found (File (files.Oem oem.UseableSpan)) = refl
each_found (File (files.Oem oem.SegmentsOverlap)) = refl
each_found (File (files.Oem oem.MatrixForm)) = refl
each_found (File files.MixedFrames) = refl
each_found (File (files.Sizes (sizes.Kvn kvn.NotPrintable))) = refl
each_found (File (files.Sizes (sizes.Kvn kvn.NoLineForm))) = refl
each_found (File (files.Sizes sizes.Form)) = refl
each_found (File (files.Sizes sizes.Number)) = refl
each_found (File (files.Sizes sizes.Range)) = refl
each_found (File (files.Sizes sizes.Twice)) = refl
each_found (File files.NoSizes) = refl
each_found (File (files.Primaries (primaries.Kvn kvn.NotPrintable))) = refl
each_found (File (files.Primaries (primaries.Kvn kvn.NoLineForm))) = refl
each_found (File (files.Primaries primaries.Form)) = refl
each_found (File (files.Primaries primaries.Twice)) = refl
each_found (File (files.Primaries primaries.Unknown)) = refl
each_found (File files.NoPrimaries) = refl
each_found (File files.Uncovered) = refl
each_found (Certificate refusals.NoFile) = refl
each_found (Certificate (refusals.Text certs.Form)) = refl
each_found (Certificate (refusals.Text certs.Range)) = refl
each_found (Certificate (refusals.Text certs.End)) = refl
each_found (Certificate (refusals.Refused checks.Header)) = refl
each_found (Certificate (refusals.Refused checks.SizeOf)) = refl
each_found (Certificate (refusals.Refused checks.PrimaryOf)) = refl
each_found (Certificate (refusals.Refused checks.ShellOf)) = refl
each_found (Certificate (refusals.Refused checks.BoxOf)) = refl
each_found (Certificate (refusals.Refused checks.Untiled)) = refl
each_found (Certificate (refusals.Refused checks.Stranger)) = refl
each_found (Certificate (refusals.Refused checks.NotFar)) = refl
each_found (Certificate (refusals.Refused checks.NotNear)) = refl
each_found (Certificate (refusals.Refused checks.NotBand)) = refl
each_found (Certificate refusals.NoReport) = refl
each_found (Certificate refusals.Report) = refl
each_found (Limit Objects) = refl
each_found (Limit FileBytes) = refl
each_found (Limit Nodes) = refl
each_found (Limit Window) = refl
each_found (Limit Slots) = refl
each_found (Limit Cells) = refl
each_found (Limit Told) = refl
each_found ReadFault = refl
each_found WriteFault = refl
each_found OutOfMemory = refl

pub each_named : (word : List ℕ) (found : Option Cause) (cause : Cause) → found ≡ cause_named word → word ≡ word_of cause → found ≡ Some cause
each_named word found cause value same = value ∙ ap cause_named same ∙ each_found cause

first_has : (word : List ℕ) (causes : List Cause) → IfSome (find (λ cause. bytes_eq (word_of cause) word) causes) (λ cause. word_of cause ≡ word)
first_has word [] = tt
first_has word (c ∷ causes) = by (bytes_eq (word_of c) word) refl (first_has word causes)
  where
    others : Option Cause
    others = find (λ cause. bytes_eq (word_of cause) word) causes

    by : (b : Bool) → bytes_eq (word_of c) word ≡ b → IfSome others (λ cause. word_of cause ≡ word) → IfSome (cond b (Some c) others) (λ cause. word_of cause ≡ word)
    by true same rest = (bytes_eq-Decides (word_of c) word).0 same
    by false same rest = rest

found_has : (word : List ℕ) → IfSome (cause_named word) (λ cause. word_of cause ≡ word)
unfolding cause_named
found_has word = first_has word every

pub named_word : (word : List ℕ) (found : Option Cause) → found ≡ cause_named word → IfSome found (λ cause. word_of cause ≡ word)
named_word word found value = rw value (found_has word)
