-- A certificate of either kind, in full or in brief: its text, what it says, when it is accepted, and the one that a run writes.
use Rattle.std.specs.Prelude.{◌≡◌, ℕ, ◌==◌, Bool, true, false, ◌&&◌, if◌then◌else◌, List, filter, Option, All, ◌<◌, ◌-◌, ◌^◌, Result, Ok, codes}
use Rattle.std.specs.List.{flat_map, starts_with}
use Rattle.cj_case.specs.Leaves.{PlainLeaf}
use Rattle.cj_case.specs.Pairs.{pairs_of}
use Rattle.cj_case.specs.PlainProblems.{PlainProblem}
use Rattle.cj_formats.specs.declared.cert_format.CertFormat.{CertFormat}
use Rattle.cj_formats.specs.declared.cert_format.CertFormat.TheVariants.{Full, Brief}
use Rattle.cj_cert.specs.Accepted.{Accepted}
use Rattle.cj_cert.specs.Certificates.{PlainCertificate, line_count}
use Rattle.cj_cert.specs.Splits.{AcceptedSplits}
use Rattle.cj_brief.specs.Accepted.{AcceptedInBrief}
use Rattle.cj_brief.specs.Certificates.{PlainBrief, line_count as brief_line_count}
use Rattle.cj_brief.specs.Splits.{BriefSplits}
use Rattle.cj_brief.specs.Written.{written_in_brief}
use Rattle.cj_cert_text.specs.Fits.{Fits, FitsInBrief}
use Rattle.cj_cert_text.specs.Reading.{Fault, and_then, reading, reading_in_brief}
use Rattle.cj_cert_text.specs.Texts.{brief_text, text_of}
use Rattle.cj_checker.specs.First.{Failure, first_failure}
use Rattle.cj_brief_checker.specs.First.{first_failure_in_brief}
use Rattle.cj_blocks.specs.Rewritten.{in_version_2, written_in}

-- a certificate in full, in one of its versions, or in brief
pub data PlainAnyCertificate : Type 0 where
  InFull : PlainCertificate → PlainAnyCertificate
  InBrief : PlainBrief → PlainAnyCertificate

-- its text
abbrev pub text_in : PlainAnyCertificate → List ℕ
text_in (InFull c) = text_of c
text_in (InBrief c) = brief_text c

-- each of its numbers is in its range
abbrev pub FitsIn : PlainAnyCertificate → Type 0
FitsIn (InFull c) = Fits c
FitsIn (InBrief c) = FitsInBrief c

-- one in brief is read where that is asked alone
abbrev pub MayRead : Bool → PlainAnyCertificate → Type 0
MayRead brief (InFull c) = Unit {0}
MayRead brief (InBrief c) = brief ≡ true

-- it is accepted for a case
abbrev pub IsAcceptedFor : PlainProblem → PlainAnyCertificate → Type 0
IsAcceptedFor case (InFull c) = Accepted case c
IsAcceptedFor case (InBrief c) = AcceptedInBrief case c

-- so many lines tell of objects and pairs that the number of each is that of a line
abbrev pub HasFewLines : PlainAnyCertificate → Type 0
HasFewLines (InFull c) = line_count c < 2 ^ 32 - 5
HasFewLines (InBrief c) = brief_line_count c < 2 ^ 32 - 5

-- whatever certificate is accepted for a case, its cells split the common ticks
abbrev pub AnySplits : PlainProblem → Type 0
AnySplits case = AcceptedSplits case × BriefSplits case

-- a certificate of this format is in brief
abbrev pub is_brief : CertFormat → Bool
is_brief (Full version) = false
is_brief Brief = true

-- ---- cells

-- the leaf is of these objects
abbrev pub is_of_pair : ℕ × ℕ → PlainLeaf → Bool
is_of_pair pair s = s.a == pair.0 && s.b == pair.1

-- the objects of each leaf are among so many, the lower number first
abbrev pub AreOfObjects : ℕ → List PlainLeaf → Type 0
AreOfObjects objects leaves = All (λ s. s.a < s.b × s.b < objects) leaves

-- leaves pair by pair, those of a pair as they stood
unfoldable pub by_pairs : ℕ → List PlainLeaf → List PlainLeaf
by_pairs objects leaves = flat_map (λ pair. filter (is_of_pair pair) leaves) (pairs_of objects)

-- the cells of one in brief are of its objects, as those of one that is accepted are
abbrev pub NamesItsObjects : PlainAnyCertificate → Type 0
NamesItsObjects (InFull c) = Unit {0}
NamesItsObjects (InBrief c) = AreOfObjects c.objects c.cells

-- What a certificate says some pairs are at which ticks, in order of pair and time. In brief cells stand slot by slot, so that those of a pair
-- are in order of time.
abbrev pub cells_in : PlainAnyCertificate → List PlainLeaf
cells_in (InFull c) = c.cells
cells_in (InBrief c) = by_pairs c.objects c.cells

-- ---- the certificate of a run

-- the one that is written for a case
abbrev pub any_written : CertFormat → PlainProblem → PlainAnyCertificate
any_written (Full version) case = InFull (written_in version case)
any_written Brief case = InBrief (written_in_brief case)

-- the one that an accepted one is rewritten to: one in full in version 2, one in brief as it is
abbrev pub any_renewed : PlainProblem → PlainAnyCertificate → PlainAnyCertificate
any_renewed case (InFull c) = InFull (in_version_2 case c)
any_renewed case (InBrief c) = InBrief c

-- ---- what bytes say

-- they begin as a certificate in brief does
abbrev pub begins_in_brief : List ℕ → Bool
begins_in_brief bytes = starts_with (λ a b. a == b) bytes (codes "CONJ-CERT 3")

-- What bytes say as a certificate, or their first fault. One in brief is read where that is asked alone: else its first line is of no form, since
-- it is of no version of one in full.
unfoldable pub any_reading : Bool → List ℕ → Result PlainAnyCertificate Fault
any_reading brief bytes =
    if brief && begins_in_brief bytes then and_then (reading_in_brief bytes) (λ c. Ok (InBrief c))
    else and_then (reading bytes) (λ c. Ok (InFull c))

-- the first line at which a certificate is not accepted for a case, and why
abbrev pub any_failure : PlainProblem → PlainAnyCertificate → Option Failure
any_failure case (InFull c) = first_failure case c
any_failure case (InBrief c) = first_failure_in_brief case c
