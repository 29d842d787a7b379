-- What was put as a certificate is accepted by a check of the same files.
use Rattle.std.proofs.Common.{◌≡◌, ℕ, Bool, false, true, ◌*◌, ◌^◌, ◌<◌, ◌≤◌, List, [], ◌∷◌, length, None, Ok, refl, sym, ap, ◌∙◌, subst, arith}
use Rattle.std.specs.Prelude.{All}
use Rattle.std.proofs.lemmas.List.{length-map}
use Rattle.cj_base.specs.Limits.{PlainLimits, USUAL}
use Rattle.cj_io.specs.declared.file.FileBytes.{FileBytes}
use Rattle.cj_formats.specs.declared.cert_format.CertFormat.{CertFormat}
use Rattle.cj_formats.specs.declared.cert_format.CertFormat.TheVariants.{Full, Brief}
use Rattle.cj_formats.specs.declared.cert_version.CertVersion.{CertVersion}
use Rattle.cj_formats.specs.declared.cert_version.CertVersion.TheVariants.{One, Two}
use Rattle.cj_formats.specs.Versions.{most_objects}
use Rattle.cj_base.specs.Ticks.{LAST_TICK}
use Rattle.cj_track.specs.Tracks.{plain_track}
use Rattle.cj_case.specs.declared.problem.Problem.{Problem}
use Rattle.cj_case.specs.CaseLimits.{MAX_SIZE}
use Rattle.cj_case.specs.PlainProblems.{PlainProblem}
use Rattle.cj_case.specs.Primaries.{marks_of}
use Rattle.cj_case.specs.Problems.{plain_problem}
use Rattle.cj_case.specs.Slots.{slot_count}
use Rattle.cj_case.specs.Leaves.{PlainLeaf}
use Rattle.cj_bezier.specs.ToldLeaves.{told_leaves}
use Rattle.cj_cells.specs.Lists.{list_candidates}
use Rattle.cj_cert.specs.declared.cert_lines.SizeOfLine.{SizeOfLine}
use Rattle.cj_cert.specs.Accepted.{Accepted, AreSizesIn}
use Rattle.cj_cert.specs.Certificates.{PlainBoxLine, PlainCertificate}
use Rattle.cj_cert.specs.Reaches.{AllStayNear}
use Rattle.cj_blocks.specs.Rewritten.{in_version_2, with_blocks, written_in}
use Rattle.cj_cert.specs.Written.{leaves_in_order, written}
use Rattle.cj_cert_text.specs.Fits.{Fits, IsOfVersion}
use Rattle.cj_cert_text.specs.Texts.{brief_text, text_of}
use Rattle.cj_cert_text.proofs.LengthLemmas.{text_short}
use Rattle.cj_cert_text.proofs.WrittenFitsLemmas.{IsOfRun, few_boxes, few_shells, few_sizes}
use Rattle.cj_checker.specs.First.{first_failure}
use Rattle.cj_brief.specs.Accepted.{AcceptedInBrief}
use Rattle.cj_brief.specs.Certificates.{PlainBrief}
use Rattle.cj_brief.specs.Written.{written_in_brief}
use Rattle.cj_brief_checker.specs.First.{first_failure_in_brief}
use Rattle.cj_words.specs.Commands.{PlainChecking}
use Rattle.cj_words.specs.Limits.{limits_of, most_certificate_bytes, most_told}
use Rattle.cj_words.specs.Settings.{PlainSettings}
use Rattle.cj_inputs.specs.Cases.{case_asked}
use Rattle.cj_inputs.specs.CheckInputs.{PlainInputs, certificate_named, inputs_asked}
use Rattle.cj_outputs.specs.Again.{IsAcceptedLater}
use Rattle.cj_outputs.specs.Either.{PlainAnyCertificate, InFull, InBrief, FitsIn, IsAcceptedFor, MayRead, any_failure, any_renewed, cells_in, text_in}
use Rattle.cj_outputs.specs.Outcome.{accepted_output, outputs_checked, report_if_accepting, said_or, tells_of, within_told}
use Rattle.cj_status.specs.declared.status.Status.TheVariants as status
use Rattle.cj_status.specs.declared.status.LimitFault.TheVariants.{Told}
use Rattle.cj_status.specs.Steps.{◌>>=◌}
use Rattle.cj_outputs.proofs.AcceptingLemmas.{accepted_so, outputs_made_from}
use Rattle.cj_outputs.proofs.AgainLemmas.{asked_again, named_again}
use Rattle.cj_outputs.proofs.BlocksFitLemmas.{in_version_2_fits, written_in_fits}
use Rattle.cj_outputs.proofs.BriefFitLemmas.{IsOfAnyRun, written_in_brief_fits, written_in_brief_short}
use Rattle.cj_outputs.proofs.CertificateLemmas.{leaves_alike}
use Rattle.cj_outputs.proofs.EitherLemmas.{any_again}
use Rattle.cj_inputs.proofs.WithinLemmas.{asked_within, let_through, usual_slots}

-- ---- what is so of a problem

few_slots : (first last : ℕ) → last ≤ LAST_TICK → slot_count first last < 2 ^ 32
few_slots first last most = omega arith

-- each version has as many objects as the usual limits allow, and no more
few_objects : (n : ℕ) → n ≤ 2000 → (version : CertVersion) → n ≤ most_objects version
few_objects n few One = few
few_objects n few Two = few

usual_few : (n : ℕ) (version : CertVersion) → n ≤ most_objects version → n ≤ 2000
usual_few n One few = few
usual_few n Two few = few

pub of_run : (problem : Problem) → length (plain_problem problem).tracks ≤ 2000 → All (λ size. size ≤ MAX_SIZE) problem.sizes → AllStayNear (plain_problem problem) → IsOfRun (plain_problem problem)
of_run problem few sizes near =
    let objects = length-map problem.tracks plain_track in
    let sized = problem.sized in
    let last = problem.window.last.in_range in
    record {
      few = few_objects (length (plain_problem problem).tracks) few;
      first = problem.window.first.in_range;
      last = last;
      least = problem.least;
      most = problem.most;
      short = few_slots problem.window.first.micros problem.window.last.micros last.1;
      sizes = sizes;
      sized = omega arith;
      near = near;
    }

pub of_any_run : (problem : Problem) → All (λ size. size ≤ MAX_SIZE) problem.sizes → IsOfAnyRun (plain_problem problem)
of_any_run problem sizes =
    let objects = length-map problem.tracks plain_track in
    let sized = problem.sized in
    let few = problem.few in
    record {
      few = omega arith;
      first = problem.window.first.in_range;
      last = problem.window.last.in_range;
      least = problem.least;
      most = problem.most;
      sizes = sizes;
      sized = omega arith;
      marked = subst (λ (n : ℕ). marks_of problem.primaries n ≡ n) (sym objects) problem.marked;
    }

-- ---- a text that is accepted later

-- a check by this name, of no report
abbrev by_name : PlainSettings → Bool → List ℕ → PlainChecking
by_name settings brief name = record { settings = settings; certificate = name; report = None; update = None; brief = brief }

abbrev alone : PlainProblem → List ℕ → PlainInputs
alone case bytes = record { case = case; bytes = bytes; report = None }

inputs_there : (files : List FileBytes) (settings : PlainSettings) (brief : Bool) (name : List ℕ) (case : PlainProblem) (bytes : List ℕ) → case_asked files settings ≡ Ok case
    → certificate_named (most_certificate_bytes settings.large) files name ≡ Ok bytes → inputs_asked files (by_name settings brief name) ≡ Ok (alone case bytes)
unfolding inputs_asked
inputs_there files settings brief name case bytes read named = rw (read, named) refl

text_accepted : (settings : PlainSettings) (files : List FileBytes) (brief : Bool) (case : PlainProblem) (c : PlainAnyCertificate) → case_asked files settings ≡ Ok case → MayRead brief c → FitsIn c
    → any_failure case c ≡ None → length (text_in c) ≤ most_certificate_bytes settings.large → IsAcceptedLater settings brief files (text_in c)
unfolding outputs_checked
text_accepted settings files brief case c read may fits none short name later outside holds =
    let bytes = text_in c in
    let asked = asked_again settings name bytes files later outside holds ∙ read in
    let there = inputs_there later settings brief name case bytes asked (named_again (most_certificate_bytes settings.large) name bytes files later holds short) in
    outputs_made_from brief (λ inputs certificate. report_if_accepting settings.limits.leaves (tells_of settings) inputs.case (cells_in certificate) inputs.report >>= λ done. Ok (accepted_output ∷ []))
    (inputs_asked later (by_name settings brief name)) (alone case bytes) c there (accepted_so brief case bytes c (ap said_or (any_again brief c may fits)) none)

-- ---- a certificate that is written

same_cells : (version : CertVersion) (case : PlainProblem) → (written_in version case).cells ≡ leaves_in_order case
unfolding with_blocks written
same_cells One case = refl
same_cells Two case = refl

text_few : (case : PlainProblem) (c : PlainCertificate) → IsOfRun case → length case.tracks * slot_count case.first case.last ≤ 4_000_000 → Accepted case c → Fits c → length c.cells ≤ 4_000_000
    → length (text_of c) ≤ 1_073_741_824
text_few case c run slots accepted fits cells =
    let few = run.few One in
    let shells = few_shells case c.shells accepted.shells in
    let boxes = few_boxes case c.boxes accepted.boxes in
    text_short c fits (sizes c.version c.sizes c.boxes fits.version accepted.sizes) (omega arith) (omega arith) cells
  where
    sizes : (version : CertVersion) (lines : List SizeOfLine) (boxes : List PlainBoxLine) → IsOfVersion version lines boxes → AreSizesIn version case lines → length lines ≤ 2000
    sizes One lines boxes first given = let none = ap length first.0 in omega arith
    sizes Two lines boxes second given = let all = few_sizes case lines given in let sized = run.sized in let few = run.few One in omega arith

-- a run whose certificate is in full goes by the usual limits
pub in_full_usual : (large : Bool) (version : CertVersion) → (large ≡ true → ◌≡◌ {A = CertFormat} (Full version) Brief) → large ≡ false
in_full_usual false version brief = refl
in_full_usual true version brief = let same = brief refl in absurd cc

pub written_later : (problem : Problem) (settings : PlainSettings) (files : List FileBytes) (version : CertVersion) → IsOfRun (plain_problem problem) → Accepted (plain_problem problem) (written (plain_problem problem))
    → Accepted (plain_problem problem) (written_in version (plain_problem problem)) → first_failure (plain_problem problem) (written_in version (plain_problem problem)) ≡ None
    → case_asked files settings ≡ Ok (plain_problem problem) → settings.large ≡ false → settings.limits ≡ USUAL → length (list_candidates (plain_problem problem)) ≤ settings.limits.leaves
    → IsAcceptedLater settings false files (text_of (written_in version (plain_problem problem)))
written_later problem settings files version run first accepted none read small usual leaves =
    let case = plain_problem problem in
    let c = written_in version case in
    let fits = written_in_fits version case run first in
    let cells : length c.cells ≤ 4_000_000 =
    subst (λ (ss : List PlainLeaf). length ss ≤ 4_000_000) (leaves_alike case ∙ sym (same_cells version case)) (subst (λ (l : PlainLimits). length (list_candidates case) ≤ l.leaves) usual leaves) in
    let short : length (text_of c) ≤ most_certificate_bytes settings.large =
    subst (λ (b : Bool). length (text_of c) ≤ most_certificate_bytes b) (sym small) (text_few case c run (usual_slots files settings case read usual) accepted fits cells) in
    text_accepted settings files false case (InFull c) read tt fits none short

-- no more leaves are told than may be
told_within : (most : ℕ) (case : PlainProblem) → within_told most Brief case ≡ Ok tt → length (told_leaves case) ≤ most
told_within most case within = (let_through {A = Unit {0}} (length (told_leaves case)) most tt tt (status.Limit (Told most)) within).0

pub written_in_brief_later : (problem : Problem) (settings : PlainSettings) (files : List FileBytes) → IsOfAnyRun (plain_problem problem)
    → AcceptedInBrief (plain_problem problem) (written_in_brief (plain_problem problem)) → first_failure_in_brief (plain_problem problem) (written_in_brief (plain_problem problem)) ≡ None
    → case_asked files settings ≡ Ok (plain_problem problem) → settings.limits ≡ limits_of settings.large → within_told (most_told settings.large) Brief (plain_problem problem) ≡ Ok tt
    → IsAcceptedLater settings true files (brief_text (written_in_brief (plain_problem problem)))
written_in_brief_later problem settings files run accepted none read limited within =
    let case = plain_problem problem in
    let few : length case.tracks ≤ (limits_of settings.large).objects = subst (λ (l : PlainLimits). length case.tracks ≤ l.objects) limited (asked_within files settings case read).objects in
    text_accepted settings files true case (InBrief (written_in_brief case)) read refl (written_in_brief_fits case run accepted) none
    (written_in_brief_short settings.large case run accepted few (told_within (most_told settings.large) case within))

-- ---- a certificate that is rewritten

-- what comes of an accepted one is accepted, and so has no failure; of one in full the case has no more objects than a run
pub renewed_later : (settings : PlainSettings) (files : List FileBytes) (brief : Bool) (case : PlainProblem) (c : PlainAnyCertificate) → (length case.tracks ≤ 2000 → IsOfRun case)
    → ((d : PlainCertificate) → Accepted case d → first_failure case (in_version_2 case d) ≡ None) → ((d : PlainBrief) → AcceptedInBrief case d → first_failure_in_brief case d ≡ None)
    → case_asked files settings ≡ Ok case → MayRead brief c → IsAcceptedFor case c → FitsIn c → length (text_in (any_renewed case c)) ≤ most_certificate_bytes settings.large
    → IsAcceptedLater settings brief files (text_in (any_renewed case c))
renewed_later settings files brief case (InFull c) run full in_brief read may accepted fits short =
    let few : length case.tracks ≤ 2000 = subst (λ (n : ℕ). n ≤ 2000) accepted.objects (usual_few c.objects c.version fits.objects) in
    text_accepted settings files brief case (InFull (in_version_2 case c)) read tt (in_version_2_fits case c (run few) fits) (full c accepted) short
renewed_later settings files brief case (InBrief c) run full in_brief read may accepted fits short =
    text_accepted settings files brief case (InBrief c) read may fits (in_brief c accepted) short
