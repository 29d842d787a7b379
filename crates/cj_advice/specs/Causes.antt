-- The causes that fault lines tell, and the words for them.
use Rattle.std.specs.Prelude.{ℕ, ◌≡◌, List, [], ◌∷◌, ◌++◌, Option, Some, None, codes, find}
use Rattle.std.specs.Fmt.{decimal}
use Rattle.std.specs.Str.{bytes_eq}
use Rattle.cj_epoch.specs.declared.fault.EpochFault.TheVariants as epoch
use Rattle.cj_kvn.specs.declared.lines.KvnCause.TheVariants as kvn
use Rattle.cj_formats.specs.declared.oem_cause.OemCause.TheVariants as oem
use Rattle.cj_formats.specs.declared.primaries_cause.PrimariesCause.TheVariants as primaries
use Rattle.cj_formats.specs.declared.sizes_cause.SizesCause.TheVariants as sizes
use Rattle.cj_formats.specs.declared.cert_cause.CertCause.TheVariants as certs
use Rattle.cj_formats.specs.declared.check_cause.CheckCause.TheVariants as checks
use Rattle.cj_words.specs.declared.option.UsageFault.{UsageFault}
use Rattle.cj_words.specs.declared.option.UsageFault.TheVariants as usage
use Rattle.cj_words.specs.Options.{name_of}
use Rattle.cj_status.specs.Faults.{cause_rest, certificate_text, line_of, oem_text, primaries_text, shown_name, sizes_text}
use Rattle.cj_status.specs.declared.status.CertificateCause.TheVariants as refusals
use Rattle.cj_status.specs.declared.status.FileCause.{FileCause}
use Rattle.cj_status.specs.declared.status.FileCause.TheVariants as refused
use Rattle.cj_status.specs.declared.status.LimitFault.{LimitFault}
use Rattle.cj_status.specs.declared.status.LimitFault.TheVariants as faults
use Rattle.cj_status.specs.declared.status.Status.{Status}
use Rattle.cj_status.specs.declared.status.Status.TheVariants as status
use Rattle.cj_advice.specs.declared.cause.Cause.{Cause}
use Rattle.cj_advice.specs.declared.cause.Cause.TheVariants.{Words, Value, File, Certificate, Limit, ReadFault, WriteFault, OutOfMemory}
use Rattle.cj_advice.specs.declared.cause.FileReason.{FileReason}
use Rattle.cj_advice.specs.declared.cause.FileReason.TheVariants as files
use Rattle.cj_advice.specs.declared.cause.LimitCause.{LimitCause}
use Rattle.cj_advice.specs.declared.cause.LimitCause.TheVariants.{Objects, FileBytes, Nodes, Window, Slots, Cells, Told}

abbrev pub limit_word : LimitCause → List ℕ
limit_word Objects = codes "Objects"
limit_word FileBytes = codes "FileBytes"
limit_word Nodes = codes "Nodes"
limit_word Window = codes "Window"
limit_word Slots = codes "Slots"
limit_word Cells = codes "Cells"
limit_word Told = codes "Told"

abbrev pub file_word : FileReason → List ℕ
file_word (files.Oem cause) = oem_text cause
file_word files.MixedFrames = codes "MixedFrames"
file_word (files.Sizes cause) = codes "Sizes " ++ sizes_text cause
file_word files.NoSizes = codes "NoSizes"
file_word (files.Primaries cause) = codes "Primaries " ++ primaries_text cause
file_word files.NoPrimaries = codes "NoPrimaries"
file_word files.Uncovered = codes "Uncovered"

-- the words of a cause, which are those of fault lines
abbrev pub word_of : Cause → List ℕ
word_of Words = codes "Words"
word_of Value = codes "Value"
word_of (File reason) = file_word reason
word_of (Certificate cause) = certificate_text cause
word_of (Limit limit) = limit_word limit
word_of ReadFault = codes "read fault"
word_of WriteFault = codes "write fault"
word_of OutOfMemory = codes "out of memory"

-- ---- what the fault line of a status tells

abbrev pub limit_cause : LimitFault → LimitCause
limit_cause (faults.Objects count) = Objects
limit_cause (faults.FileBytes file) = FileBytes
limit_cause (faults.Nodes count) = Nodes
limit_cause (faults.Window length) = Window
limit_cause (faults.Slots count) = Slots
limit_cause (faults.Cells limit) = Cells
limit_cause (faults.Told limit) = Told

abbrev pub file_reason : FileCause → FileReason
file_reason (refused.Oem cause) = files.Oem cause
file_reason refused.MixedFrames = files.MixedFrames
file_reason (refused.Sizes cause) = files.Sizes cause
file_reason refused.NoSizes = files.NoSizes
file_reason (refused.Primaries cause) = files.Primaries cause
file_reason refused.NoPrimaries = files.NoPrimaries
file_reason (refused.Uncovered micros) = files.Uncovered

abbrev pub usage_cause : UsageFault → Cause
usage_cause usage.Words = Words
usage_cause (usage.Value option) = Value

abbrev pub cause_of : Status → Option Cause
cause_of status.Ok = None
cause_of (status.NotAccepted line cause) = Some (Certificate cause)
cause_of (status.Usage fault) = Some (usage_cause fault)
cause_of (status.BadFile file line cause) = Some (File (file_reason cause))
cause_of status.ReadFault = Some ReadFault
cause_of status.WriteFault = Some WriteFault
cause_of (status.Limit fault) = Some (Limit (limit_cause fault))
cause_of status.OutOfMemory = Some OutOfMemory

-- what a fault line names beside its cause: before it the file and the line
abbrev pub front_of : Status → List ℕ
front_of status.Ok = []
front_of (status.NotAccepted line cause) = codes "conj: not accepted: line " ++ decimal line ++ codes ": "
front_of (status.Usage fault) = codes "conj: usage: "
front_of (status.BadFile file line cause) = codes "conj: " ++ shown_name file ++ codes ": line " ++ decimal line ++ codes ": "
front_of status.ReadFault = codes "conj: "
front_of status.WriteFault = codes "conj: "
front_of (status.Limit fault) = codes "conj: limit: "
front_of status.OutOfMemory = codes "conj: "

-- and behind it the option, the number, the tick or the file, and the end of the line
abbrev pub limit_rest : LimitFault → List ℕ
limit_rest (faults.Objects count) = codes " " ++ decimal count ++ 10 ∷ []
limit_rest (faults.FileBytes file) = codes " " ++ shown_name file ++ 10 ∷ []
limit_rest (faults.Nodes count) = codes " " ++ decimal count ++ 10 ∷ []
limit_rest (faults.Window length) = codes " " ++ decimal length ++ 10 ∷ []
limit_rest (faults.Slots count) = codes " " ++ decimal count ++ 10 ∷ []
limit_rest (faults.Cells limit) = codes " " ++ decimal limit ++ 10 ∷ []
limit_rest (faults.Told limit) = codes " " ++ decimal limit ++ 10 ∷ []

abbrev pub rest_of : Status → List ℕ
rest_of status.Ok = []
rest_of (status.NotAccepted line cause) = 10 ∷ []
rest_of (status.Usage usage.Words) = 10 ∷ []
rest_of (status.Usage (usage.Value option)) = codes " " ++ name_of option ++ 10 ∷ []
rest_of (status.BadFile file line cause) = cause_rest cause ++ 10 ∷ []
rest_of status.ReadFault = 10 ∷ []
rest_of status.WriteFault = 10 ∷ []
rest_of (status.Limit fault) = limit_rest fault
rest_of status.OutOfMemory = 10 ∷ []

-- the fault line of the status prints the words of the cause
abbrev pub Tells : Cause → Status → Type 0
Tells cause s = line_of s ≡ front_of s ++ word_of cause ++ rest_of s

-- ---- causes by their words

-- each cause once
unfoldable pub every : List Cause
every =
    Words
    ∷ Value
    ∷ File (files.Oem oem.Name)
    ∷ File (files.Oem (oem.Kvn kvn.NotPrintable))
    ∷ File (files.Oem (oem.Kvn kvn.NoLineForm))
    ∷ File (files.Oem oem.Order)
    ∷ File (files.Oem oem.Version)
    ∷ File (files.Oem oem.Twice)
    ∷ File (files.Oem oem.Unknown)
    ∷ File (files.Oem oem.Missing)
    ∷ File (files.Oem oem.ObjectChanged)
    ∷ File (files.Oem oem.Center)
    ∷ File (files.Oem oem.TimeSystem)
    ∷ File (files.Oem oem.Frame)
    ∷ File (files.Oem oem.Interpolation)
    ∷ File (files.Oem oem.Fields)
    ∷ File (files.Oem oem.MatrixForm)
    ∷ File (files.Oem (oem.Epoch epoch.Form))
    ∷ File (files.Oem (oem.Epoch epoch.Range))
    ∷ File (files.Oem (oem.Epoch epoch.SecondSixty))
    ∷ File (files.Oem (oem.Epoch epoch.TooFine))
    ∷ File (files.Oem oem.Number)
    ∷ File (files.Oem oem.CoordinateRange)
    ∷ File (files.Oem oem.RateRange)
    ∷ File (files.Oem oem.TimesFall)
    ∷ File (files.Oem oem.StepTooLong)
    ∷ File (files.Oem oem.LeapSecond)
    ∷ File (files.Oem oem.TooFewNodes)
    ∷ File (files.Oem oem.UseableSpan)
    ∷ File (files.Oem oem.SegmentsOverlap)
    ∷ File files.MixedFrames
    ∷ File (files.Sizes (sizes.Kvn kvn.NotPrintable))
    ∷ File (files.Sizes (sizes.Kvn kvn.NoLineForm))
    ∷ File (files.Sizes sizes.Form)
    ∷ File (files.Sizes sizes.Number)
    ∷ File (files.Sizes sizes.Range)
    ∷ File (files.Sizes sizes.Twice)
    ∷ File files.NoSizes
    ∷ File (files.Primaries (primaries.Kvn kvn.NotPrintable))
    ∷ File (files.Primaries (primaries.Kvn kvn.NoLineForm))
    ∷ File (files.Primaries primaries.Form)
    ∷ File (files.Primaries primaries.Twice)
    ∷ File (files.Primaries primaries.Unknown)
    ∷ File files.NoPrimaries
    ∷ File files.Uncovered
    ∷ Certificate refusals.NoFile
    ∷ Certificate (refusals.Text certs.Form)
    ∷ Certificate (refusals.Text certs.Range)
    ∷ Certificate (refusals.Text certs.End)
    ∷ Certificate (refusals.Refused checks.Header)
    ∷ Certificate (refusals.Refused checks.SizeOf)
    ∷ Certificate (refusals.Refused checks.PrimaryOf)
    ∷ Certificate (refusals.Refused checks.ShellOf)
    ∷ Certificate (refusals.Refused checks.BoxOf)
    ∷ Certificate (refusals.Refused checks.Untiled)
    ∷ Certificate (refusals.Refused checks.Stranger)
    ∷ Certificate (refusals.Refused checks.NotFar)
    ∷ Certificate (refusals.Refused checks.NotNear)
    ∷ Certificate (refusals.Refused checks.NotBand)
    ∷ Certificate refusals.NoReport
    ∷ Certificate refusals.Report
    ∷ Limit Objects
    ∷ Limit FileBytes
    ∷ Limit Nodes
    ∷ Limit Window
    ∷ Limit Slots
    ∷ Limit Cells
    ∷ Limit Told
    ∷ ReadFault
    ∷ WriteFault
    ∷ OutOfMemory
    ∷ []

-- the cause with these words
unfoldable pub cause_named : List ℕ → Option Cause
cause_named word = find (λ cause. bytes_eq (word_of cause) word) every
