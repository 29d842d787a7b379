-- How a text is read line by line.
use Rattle.std.proofs.Common.{◌≡◌, ℕ, ◌+◌, ◌<◌, ◌≤◌, List, [], ◌∷◌, map, All, arith, ap, sym, ◌∙◌, refl, subst, true, Bool, cond, Option, Some, None, Result, Ok, Err, IfOk, length}
use Rattle.std.specs.Prelude.{◌==◌}
use Rattle.std.specs.List.{list_all, slice_split}
use Rattle.std.proofs.lemmas.Bool.{eq-eqb}
use Rattle.std.proofs.lemmas.List.Elements.{All-head, All-tail}
use Rattle.std.proofs.lemmas.List.Splits.{length-slice_split}
use Rattle.cj_cert.specs.declared.cert_lines.BoxLine.{BoxLine}
use Rattle.cj_cert.specs.declared.cert_lines.SizeOfLine.{SizeOfLine}
use Rattle.cj_cert.specs.declared.certificate.Certificate.{Certificate}
use Rattle.cj_formats.specs.declared.cert_cause.CertCause.{CertCause}
use Rattle.cj_kvn.specs.declared.text_fault.TextFault.{TextFault}
use Rattle.cj_kvn.specs.declared.text_fault.TextFault.TheVariants.{Memory, At}
use Rattle.cj_formats.specs.declared.cert_version.CertVersion.{CertVersion}
use Rattle.cj_formats.specs.declared.cert_format.CertFormat.{CertFormat}
use Rattle.cj_formats.specs.declared.cert_format.CertFormat.TheVariants.{Full, Brief}
use Rattle.cj_cert_text.specs.declared.draft.CertificateDraft.{CertificateDraft}
use Rattle.cj_formats.specs.declared.cert_version.CertVersion.TheVariants.{One, Two}
use Rattle.cj_cert_text.specs.declared.rank.Rank.{Rank}
use Rattle.cj_cert.specs.Certificates.{PlainBoxLine, PlainCertificate, line_count, plain_box_line, plain_certificate}
use Rattle.cj_brief.specs.declared.brief_certificate.BriefCertificate.{BriefCertificate}
use Rattle.cj_brief.specs.Certificates as brief
use Rattle.cj_brief.specs.Certificates.{PlainBrief, plain_brief}
use Rattle.cj_cert_text.specs.Fits.{Fits, FitsInBrief, IsOfVersion}
use Rattle.cj_cert_text.specs.Lines.{PlainLine, line_said, rank_of}
use Rattle.cj_cert_text.specs.Ranks.{has_ended}
use Rattle.cj_cert_text.specs.Reading.{Fault, PlainSaid, and_then, at_line, behind_lines, ends_at, in_brief, in_version, lines_said, nothing_said, reading, reading_in_brief, reads_on, version_of, with_line}
use Rattle.cj_cert_text.specs.Readers.{Gives, plain_draft}
use Rattle.cj_cert_text.specs.Texts.{brief_text, text_of}
use Rattle.cj_cert.specs.Versions.{is_of_version}
use Rattle.cj_cert_text.proofs.ChainLemmas.{brief_again, reading_again}
use Rattle.cj_cert_text.proofs.CountLemmas.{brief_lines_within, line_long, lines_within}
use Rattle.cj_cert_text.proofs.LineLemmas.{words_of}
use Rattle.cj_cert_text.proofs.ReadLemmas.{brief_only, line_read, lines_read, reading_only}

-- ---- what is given

-- what is made of what the lines say is what is read
pub full_made : (bytes : List ℕ) (v : CertVersion) (d : CertificateDraft) (c : Certificate) → v ≡ version_of bytes → lines_said (Full v) bytes ≡ Ok (plain_draft d)
    → plain_certificate c ≡ in_version v (plain_draft d) → reading bytes ≡ Ok (plain_certificate c)
unfolding reading
full_made bytes v d c version is made =
    ap (λ (w : CertVersion). and_then (lines_said (Full w) bytes) (λ s. Ok (in_version w s))) (sym version)
    ∙ ap (λ (r : Result PlainSaid Fault). and_then r (λ s. Ok (in_version v s))) is
    ∙ ap (λ (x : PlainCertificate). Ok x) (sym made)

-- and their fault is its fault
pub full_fault : (bytes : List ℕ) (v : CertVersion) (fault : TextFault CertCause) → v ≡ version_of bytes → Gives plain_draft (Err fault) (lines_said (Full v) bytes)
    → Gives plain_certificate (Err fault) (reading bytes)
unfolding reading
full_fault bytes v Memory version is = tt
full_fault bytes v (At line cause) version is =
    ap (λ (w : CertVersion). and_then (lines_said (Full w) bytes) (λ s. Ok (in_version w s))) (sym version)
    ∙ ap (λ (r : Result PlainSaid Fault). and_then r (λ s. Ok (in_version v s))) is

pub gives_only : (bytes : List ℕ) (r : Result Certificate (TextFault CertCause)) → Gives plain_certificate r (reading bytes)
    → IfOk r (λ c. (bytes ≡ text_of (plain_certificate c)) × Fits (plain_certificate c))
gives_only bytes (Ok c) is = reading_only bytes (plain_certificate c) is
gives_only bytes (Err fault) is = tt

pub gives_again : (bytes : List ℕ) (r : Result Certificate (TextFault CertCause)) → Gives plain_certificate r (reading bytes) → (c : PlainCertificate) → Fits c → bytes ≡ text_of c
    → Gives plain_certificate r (Ok c)
gives_again bytes r is c fits same = subst (Gives plain_certificate r) (ap reading same ∙ reading_again c fits) is

pub gives_few : (bytes : List ℕ) (r : Result Certificate (TextFault CertCause)) → Gives plain_certificate r (reading bytes) → IfOk r (λ c. line_count (plain_certificate c) ≤ length bytes)
gives_few bytes (Ok c) is =
    let same = (reading_only bytes (plain_certificate c) is).0 in
    subst (λ (t : List ℕ). line_count (plain_certificate c) ≤ length t) (sym same) (lines_within (plain_certificate c))
gives_few bytes (Err fault) is = tt

-- the same in brief

pub brief_gives_only : (bytes : List ℕ) (r : Result BriefCertificate (TextFault CertCause)) → Gives plain_brief r (reading_in_brief bytes)
    → IfOk r (λ c. (bytes ≡ brief_text (plain_brief c)) × FitsInBrief (plain_brief c))
brief_gives_only bytes (Ok c) is = brief_only bytes (plain_brief c) is
brief_gives_only bytes (Err fault) is = tt

pub brief_gives_again : (bytes : List ℕ) (r : Result BriefCertificate (TextFault CertCause)) → Gives plain_brief r (reading_in_brief bytes) → (c : PlainBrief) → FitsInBrief c → bytes ≡ brief_text c
    → Gives plain_brief r (Ok c)
brief_gives_again bytes r is c fits same = subst (Gives plain_brief r) (ap reading_in_brief same ∙ brief_again c fits) is

pub brief_gives_few : (bytes : List ℕ) (r : Result BriefCertificate (TextFault CertCause)) → Gives plain_brief r (reading_in_brief bytes) → IfOk r (λ c. brief.line_count (plain_brief c) ≤ length bytes)
brief_gives_few bytes (Ok c) is =
    let same = (brief_only bytes (plain_brief c) is).0 in
    subst (λ (t : List ℕ). brief.line_count (plain_brief c) ≤ length t) (sym same) (brief_lines_within (plain_brief c))
brief_gives_few bytes (Err fault) is = tt

pub brief_made : (bytes : List ℕ) (d : CertificateDraft) (c : BriefCertificate) → lines_said Brief bytes ≡ Ok (plain_draft d) → plain_brief c ≡ in_brief (plain_draft d)
    → reading_in_brief bytes ≡ Ok (plain_brief c)
unfolding reading_in_brief
brief_made bytes d c is made = ap (λ (r : Result PlainSaid Fault). and_then r (λ s. Ok (in_brief s))) is ∙ ap (λ (x : PlainBrief). Ok x) (sym made)

pub brief_fault : (bytes : List ℕ) (fault : TextFault CertCause) → Gives plain_draft (Err fault) (lines_said Brief bytes) → Gives plain_brief (Err fault) (reading_in_brief bytes)
unfolding reading_in_brief
brief_fault bytes Memory is = tt
brief_fault bytes (At line cause) is = ap (λ (r : Result PlainSaid Fault). and_then r (λ s. Ok (in_brief s))) is

-- ---- one line more

split_some : (bytes : List ℕ) → 0 < length (slice_split (λ b. b == 10) bytes)
split_some bytes = omega (arith, length-slice_split (λ b. b == 10) bytes)

on_parts : (v : CertFormat) (number : ℕ) (before : Option Rank) (c : PlainSaid) (text : List ℕ) (parts : List (List ℕ)) (x : Result PlainLine CertCause) → 0 < length parts
    → line_said v before text ≡ x
    → reads_on v number before c (text ∷ parts) ≡ and_then (at_line number x) (λ l. reads_on v (number + 1) (Some (rank_of l)) (with_line c l) parts)
unfolding reads_on
on_parts v number before c text [] x some is = absurd (omega arith)
on_parts v number before c text (next ∷ parts) x some is =
    ap (λ (y : Result PlainLine CertCause). and_then (at_line number y) (λ l. reads_on v (number + 1) (Some (rank_of l)) (with_line c l) (next ∷ parts))) is

-- a line that is read
pub line_taken : (v : CertFormat) (number : ℕ) (before : Option Rank) (c : PlainSaid) (rest text behind : List ℕ) (l : PlainLine)
    → slice_split (λ b. b == 10) rest ≡ text ∷ slice_split (λ b. b == 10) behind → line_said v before text ≡ Ok l
    → reads_on v (number + 1) (Some (rank_of l)) (with_line c l) (slice_split (λ b. b == 10) behind) ≡ reads_on v number before c (slice_split (λ b. b == 10) rest)
line_taken v number before c rest text behind l parts is =
    sym (ap (reads_on v number before c) parts ∙ on_parts v number before c text (slice_split (λ b. b == 10) behind) (Ok l) (split_some behind) is)

-- a line that is at fault
pub line_refused : (v : CertFormat) (number : ℕ) (before : Option Rank) (c : PlainSaid) (rest text behind : List ℕ) (cause : CertCause)
    → slice_split (λ b. b == 10) rest ≡ text ∷ slice_split (λ b. b == 10) behind → line_said v before text ≡ Err cause
    → reads_on v number before c (slice_split (λ b. b == 10) rest) ≡ Err (record { line = number; cause = cause })
line_refused v number before c rest text behind cause parts is =
    ap (reads_on v number before c) parts ∙ on_parts v number before c text (slice_split (λ b. b == 10) behind) (Err cause) (split_some behind) is

-- what stands behind the last LF
pub last_part : (v : CertFormat) (number : ℕ) (before : Option Rank) (c : PlainSaid) (rest : List ℕ) → slice_split (λ b. b == 10) rest ≡ rest ∷ []
    → reads_on v number before c (slice_split (λ b. b == 10) rest) ≡ behind_lines v number before c rest
unfolding reads_on
last_part v number before c rest parts = ap (reads_on v number before c) parts

-- a text that ends behind its last line
pub all_taken : (v : CertFormat) (number : ℕ) (before : Option Rank) (c : PlainSaid) (rest : List ℕ) → rest ≡ [] → has_ended before ≡ true → behind_lines v number before c rest ≡ Ok c
all_taken v number before c [] none ended = ap (λ (b : Bool). cond b (Ok c) (ends_at number)) ended
all_taken v number before c (b ∷ bs) none ended = absurd cc

-- the whole text, once nothing is left of it
pub ends_well : (v : CertFormat) (bytes : List ℕ) (number : ℕ) (before : Option Rank) (c : PlainSaid) (rest : List ℕ) → reads_on v number before c (slice_split (λ b. b == 10) rest) ≡ lines_said v bytes
    → slice_split (λ b. b == 10) rest ≡ rest ∷ [] → (rest ≡ []) × (has_ended before ≡ true) → lines_said v bytes ≡ Ok c
ends_well v bytes number before c rest read parts done = sym read ∙ last_part v number before c rest parts ∙ all_taken v number before c rest done.0 done.1

-- the text that is not begun
pub begins : (v : CertFormat) (bytes : List ℕ) (c : PlainSaid) → c ≡ nothing_said → reads_on v 1 None c (slice_split (λ b. b == 10) bytes) ≡ lines_said v bytes
unfolding lines_said
begins v bytes c same = ap (λ (d : PlainSaid). reads_on v 1 None d (slice_split (λ b. b == 10) bytes)) same

-- a line has three bytes at least
pub line_length : (v : CertFormat) (before : Option Rank) (text : List ℕ) (l : PlainLine) → line_said v before text ≡ Ok l → 3 ≤ length text
line_length v before text l is =
    let read = line_read v before text l is in
    subst (λ (t : List ℕ). 3 ≤ length t) (sym read.joined) (line_long (rank_of l) (words_of v l))

-- ---- versions

all_same : (boxes : List BoxLine) → All (λ b. b.first ≡ b.last) (map plain_box_line boxes) → list_all (λ (b : BoxLine). b.first == b.last) boxes ≡ true
all_same [] all = refl
all_same (b ∷ bs) all =
    let here = All-head (λ x. x.first ≡ x.last) (plain_box_line b) (map plain_box_line bs) all in
    let others = All-tail (λ x. x.first ≡ x.last) (plain_box_line b) (map plain_box_line bs) all in
    rw (eq-eqb b.first b.last here, all_same bs others) refl

-- sizes and boxes that fit are what the version allows
pub version_allows : (v : CertVersion) (sizes : List SizeOfLine) (boxes : List BoxLine) → IsOfVersion v sizes (map plain_box_line boxes) → is_of_version v sizes boxes ≡ true
version_allows One sizes boxes first = rw (first.0, all_same boxes first.1) refl
version_allows Two sizes boxes second = refl

-- those of lines that are read
pub read_allows : (version : CertVersion) (bytes : List ℕ) (c : PlainSaid) (sizes : List SizeOfLine) (boxes : List BoxLine) → lines_said (Full version) bytes ≡ Ok c → c.sizes ≡ sizes
    → c.boxes ≡ map plain_box_line boxes → is_of_version version sizes boxes ≡ true
read_allows version bytes c sizes boxes is same_sizes same_boxes =
    version_allows version sizes boxes
    (subst (λ (bs : List PlainBoxLine). IsOfVersion version sizes bs) same_boxes
    (subst (λ (ss : List SizeOfLine). IsOfVersion version ss c.boxes) same_sizes (lines_read (Full version) bytes c is).fits.lists.version.0))
