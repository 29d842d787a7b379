-- The lines that say why a run failed.
use Rattle.std.specs.Prelude.{ℕ, ◌&&◌, max, min, nat_le, if◌then◌else◌, List, [], ◌∷◌, ◌++◌, map, codes}
use Rattle.std.specs.Fmt.{decimal}
use Rattle.cj_base.specs.Ticks.{FIRST_TICK, LAST_TICK}
use Rattle.cj_epoch.specs.declared.fault.EpochFault.{EpochFault}
use Rattle.cj_epoch.specs.declared.fault.EpochFault.TheVariants as epoch
use Rattle.cj_epoch.specs.Written.{epoch_of}
use Rattle.cj_kvn.specs.declared.lines.KvnCause.{KvnCause}
use Rattle.cj_kvn.specs.declared.lines.KvnCause.TheVariants as kvn
use Rattle.cj_formats.specs.declared.oem_cause.OemCause.{OemCause}
use Rattle.cj_formats.specs.declared.oem_cause.OemCause.TheVariants as oem
use Rattle.cj_formats.specs.declared.primaries_cause.PrimariesCause.{PrimariesCause}
use Rattle.cj_formats.specs.declared.primaries_cause.PrimariesCause.TheVariants as primaries
use Rattle.cj_formats.specs.declared.sizes_cause.SizesCause.{SizesCause}
use Rattle.cj_formats.specs.declared.sizes_cause.SizesCause.TheVariants as sizes
use Rattle.cj_formats.specs.declared.cert_cause.CertCause.{CertCause}
use Rattle.cj_formats.specs.declared.cert_cause.CertCause.TheVariants as certs
use Rattle.cj_formats.specs.declared.check_cause.CheckCause.{CheckCause}
use Rattle.cj_formats.specs.declared.check_cause.CheckCause.TheVariants as checks
use Rattle.cj_words.specs.declared.option.UsageFault.{UsageFault}
use Rattle.cj_words.specs.declared.option.UsageFault.TheVariants.{Words, Value}
use Rattle.cj_words.specs.Options.{name_of}
use Rattle.cj_status.specs.declared.status.Status.{Status}
use Rattle.cj_status.specs.declared.status.Status.TheVariants as status
use Rattle.cj_status.specs.declared.status.CertificateCause.{CertificateCause}
use Rattle.cj_status.specs.declared.status.CertificateCause.TheVariants.{NoFile, Text, Refused, NoReport, Report}
use Rattle.cj_status.specs.declared.status.FileCause.{FileCause}
use Rattle.cj_status.specs.declared.status.FileCause.TheVariants.{Oem, MixedFrames, Sizes, NoSizes, Primaries, NoPrimaries, Uncovered}
use Rattle.cj_status.specs.declared.status.LimitFault.{LimitFault}
use Rattle.cj_status.specs.declared.status.LimitFault.TheVariants.{Objects, FileBytes, Nodes, Window, Slots, Cells, Told}

abbrev pub usage_text : UsageFault → List ℕ
usage_text Words = codes "Words"
usage_text (Value option) = codes "Value " ++ name_of option

abbrev pub kvn_text : KvnCause → List ℕ
kvn_text kvn.NotPrintable = codes "NotPrintable"
kvn_text kvn.NoLineForm = codes "NoLineForm"

abbrev pub epoch_text : EpochFault → List ℕ
epoch_text epoch.Form = codes "Form"
epoch_text epoch.Range = codes "Range"
epoch_text epoch.SecondSixty = codes "SecondSixty"
epoch_text epoch.TooFine = codes "TooFine"

-- the name of a cause, and behind it that of another that it carries
abbrev pub oem_text : OemCause → List ℕ
oem_text oem.Name = codes "Name"
oem_text (oem.Kvn cause) = codes "Kvn " ++ kvn_text cause
oem_text oem.Order = codes "Order"
oem_text oem.Version = codes "Version"
oem_text oem.Twice = codes "Twice"
oem_text oem.Unknown = codes "Unknown"
oem_text oem.Missing = codes "Missing"
oem_text oem.Interpolation = codes "Interpolation"
oem_text oem.ObjectChanged = codes "ObjectChanged"
oem_text oem.Center = codes "Center"
oem_text oem.Frame = codes "Frame"
oem_text oem.TimeSystem = codes "TimeSystem"
oem_text (oem.Epoch fault) = codes "Epoch " ++ epoch_text fault
oem_text oem.Fields = codes "Fields"
oem_text oem.Number = codes "Number"
oem_text oem.CoordinateRange = codes "CoordinateRange"
oem_text oem.RateRange = codes "RateRange"
oem_text oem.TimesFall = codes "TimesFall"
oem_text oem.StepTooLong = codes "StepTooLong"
oem_text oem.LeapSecond = codes "LeapSecond"
oem_text oem.TooFewNodes = codes "TooFewNodes"
oem_text oem.UseableSpan = codes "UseableSpan"
oem_text oem.SegmentsOverlap = codes "SegmentsOverlap"
oem_text oem.MatrixForm = codes "MatrixForm"

-- the same of a file of sizes
abbrev pub sizes_text : SizesCause → List ℕ
sizes_text (sizes.Kvn cause) = codes "Kvn " ++ kvn_text cause
sizes_text sizes.Form = codes "Form"
sizes_text sizes.Number = codes "Number"
sizes_text sizes.Range = codes "Range"
sizes_text sizes.Twice = codes "Twice"

-- and of a file of primaries
abbrev pub primaries_text : PrimariesCause → List ℕ
primaries_text (primaries.Kvn cause) = codes "Kvn " ++ kvn_text cause
primaries_text primaries.Form = codes "Form"
primaries_text primaries.Twice = codes "Twice"
primaries_text primaries.Unknown = codes "Unknown"

abbrev pub cause_text : FileCause → List ℕ
cause_text (Oem cause) = oem_text cause
cause_text MixedFrames = codes "MixedFrames"
cause_text (Sizes cause) = codes "Sizes " ++ sizes_text cause
cause_text NoSizes = codes "NoSizes"
cause_text (Primaries cause) = codes "Primaries " ++ primaries_text cause
cause_text NoPrimaries = codes "NoPrimaries"
cause_text (Uncovered micros) = codes "Uncovered"

-- what a fault line names behind it: the tick, or the nearest where there is no such tick
abbrev pub cause_rest : FileCause → List ℕ
cause_rest (Oem cause) = []
cause_rest MixedFrames = []
cause_rest (Sizes cause) = []
cause_rest NoSizes = []
cause_rest (Primaries cause) = []
cause_rest NoPrimaries = []
cause_rest (Uncovered micros) = codes " " ++ epoch_of (max FIRST_TICK (min LAST_TICK micros))

-- the same of the text of a certificate
abbrev pub cert_text : CertCause → List ℕ
cert_text certs.Form = codes "Form"
cert_text certs.Range = codes "Range"
cert_text certs.End = codes "End"

-- and of one that is not accepted for the files
abbrev pub check_text : CheckCause → List ℕ
check_text checks.Header = codes "Header"
check_text checks.SizeOf = codes "SizeOf"
check_text checks.PrimaryOf = codes "PrimaryOf"
check_text checks.ShellOf = codes "ShellOf"
check_text checks.BoxOf = codes "BoxOf"
check_text checks.Untiled = codes "Untiled"
check_text checks.Stranger = codes "Stranger"
check_text checks.NotFar = codes "NotFar"
check_text checks.NotNear = codes "NotNear"
check_text checks.NotBand = codes "NotBand"

abbrev pub certificate_text : CertificateCause → List ℕ
certificate_text NoFile = codes "NoFile"
certificate_text (Text cause) = codes "Text " ++ cert_text cause
certificate_text (Refused cause) = check_text cause
certificate_text NoReport = codes "NoReport"
certificate_text Report = codes "Report"

-- a name of a file as it is shown: each byte that is not printable as ?, so that no name breaks the line
abbrev pub shown_byte : ℕ → ℕ
shown_byte b = if nat_le 32 b && nat_le b 126 then b else 63

abbrev pub shown_name : List ℕ → List ℕ
shown_name name = map shown_byte name

abbrev pub limit_text : LimitFault → List ℕ
limit_text (Objects count) = codes "Objects " ++ decimal count
limit_text (FileBytes file) = codes "FileBytes " ++ shown_name file
limit_text (Nodes count) = codes "Nodes " ++ decimal count
limit_text (Window length) = codes "Window " ++ decimal length
limit_text (Slots count) = codes "Slots " ++ decimal count
limit_text (Cells limit) = codes "Cells " ++ decimal limit
limit_text (Told limit) = codes "Told " ++ decimal limit

-- of a file that is refused: its name, the line, and what is wrong with it
abbrev pub refused_body : List ℕ → ℕ → FileCause → List ℕ
refused_body file line cause = shown_name file ++ codes ": line " ++ decimal line ++ codes ": " ++ cause_text cause ++ cause_rest cause

-- what stands between `conj: ` and the end of the line
abbrev pub fault_body : Status → List ℕ
fault_body status.Ok = []
fault_body (status.NotAccepted line cause) = codes "not accepted: line " ++ decimal line ++ codes ": " ++ certificate_text cause
fault_body (status.Usage fault) = codes "usage: " ++ usage_text fault
fault_body (status.BadFile file line cause) = refused_body file line cause
fault_body status.ReadFault = codes "read fault"
fault_body status.WriteFault = codes "write fault"
fault_body (status.Limit fault) = codes "limit: " ++ limit_text fault
fault_body status.OutOfMemory = codes "out of memory"

abbrev pub line_with : List ℕ → List ℕ
line_with body = codes "conj: " ++ body ++ 10 ∷ []

-- the line of a status, empty where all went well
abbrev pub line_of : Status → List ℕ
line_of status.Ok = []
line_of (status.NotAccepted line cause) = line_with (fault_body (status.NotAccepted line cause))
line_of (status.Usage fault) = line_with (fault_body (status.Usage fault))
line_of (status.BadFile file line cause) = line_with (fault_body (status.BadFile file line cause))
line_of status.ReadFault = line_with (fault_body status.ReadFault)
line_of status.WriteFault = line_with (fault_body status.WriteFault)
line_of (status.Limit fault) = line_with (fault_body (status.Limit fault))
line_of status.OutOfMemory = line_with (fault_body status.OutOfMemory)
