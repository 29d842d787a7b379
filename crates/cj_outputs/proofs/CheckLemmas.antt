-- What a check needs: certificates with few lines, and what its inputs say.
use Rattle.std.proofs.Common.{◌≡◌, ℕ, ◌+◌, ◌*◌, ◌-◌, ◌^◌, ◌<◌, ◌≤◌, List, [], ◌∷◌, length, Option, Some, None, Result, Ok, Err, refl, ap, ◌∙◌, sym, subst, arith}
use Rattle.std.specs.Prelude.{IfSome}
use Rattle.std.specs.List.{enumerate_from, cons_option, filter_map, flat_map}
use Rattle.std.proofs.lemmas.List.{length-append, length-map}
use Rattle.std.proofs.lemmas.List.FromFn.{length-enumerate_from, length-range_with_len}
use Rattle.cj_base.specs.Bounds.{MOST_LEAVES, MOST_OBJECTS, MOST_OBJECT_SLOTS}
use Rattle.cj_track.specs.PlainTracks.{PlainTrack}
use Rattle.cj_io.specs.declared.file.FileBytes.{FileBytes}
use Rattle.cj_track.specs.Tracks.{plain_track}
use Rattle.cj_case.specs.PlainProblems.{PlainProblem}
use Rattle.cj_hermite.specs.Roots.{slots_of}
use Rattle.cj_case.specs.Slots.{slot_count}
use Rattle.cj_words.specs.Commands.{PlainChecking}
use Rattle.cj_words.specs.Limits.{most_certificate_bytes}
use Rattle.cj_case.specs.Leaves.{PlainLeaf}
use Rattle.cj_cells.specs.Lists.{list_candidates}
use Rattle.cj_cert.specs.Certificates.{line_count}
use Rattle.cj_cert.specs.Written.{box_lines, line_in_slot, shell_line, written}
use Rattle.cj_status.specs.declared.status.Status.{Status}
use Rattle.cj_status.specs.Steps.{◌>>=◌}
use Rattle.cj_inputs.specs.Cases.{case_asked}
use Rattle.cj_inputs.specs.Updates.{case_with_updates}
use Rattle.cj_inputs.specs.CheckInputs.{PlainInputs, certificate_named, inputs_asked, report_if_named, report_named}
use Rattle.cj_outputs.specs.declared.findings.Findings.{Findings}
use Rattle.cj_outputs.specs.Again.{IsAcceptedLater}
use Rattle.cj_outputs.specs.Checks.{AcceptedReport, AcceptedText, Vouches, VouchesReport}
use Rattle.cj_outputs.specs.Either.{PlainAnyCertificate, cells_in, text_in}
use Rattle.cj_outputs.specs.Findings.{case_in}
use Rattle.cj_outputs.specs.Outcome.{tells_of}
use Rattle.cj_outputs.specs.Rewrites.{RenewedText, Renews}
use Rattle.cj_outputs.proofs.CertificateLemmas.{leaves_alike}

filtered_few : {A B : Type 0} (f : A → Option B) (xs : List A) → length (filter_map f xs) ≤ length xs
filtered_few f [] = omega arith
filtered_few {B = B} f (x ∷ xs) = kept (f x) (filtered_few f xs)
  where
    kept : (o : Option B) → length (filter_map f xs) ≤ length xs → length (cons_option o (filter_map f xs)) ≤ length (x ∷ xs)
    kept None few = omega arith
    kept (Some y) few = omega arith

boxes_few : (case : PlainProblem) (n : ℕ) (es : List PlainTrack) → length (flat_map (box_lines case) (enumerate_from n es)) ≤ length es * length (slots_of case)
boxes_few case n [] = omega arith
boxes_few case n (e ∷ es) =
    let here = filtered_few (λ slot. line_in_slot case (n, e) slot) (slots_of case) in
    omega (arith, length-append (box_lines case (n, e)) (flat_map (box_lines case) (enumerate_from (n + 1) es)), here, boxes_few case (n + 1) es)

pub written_few : (case : PlainProblem) → length case.tracks ≤ MOST_OBJECTS → length case.tracks * slot_count case.first case.last ≤ MOST_OBJECT_SLOTS → length (list_candidates case) ≤ MOST_LEAVES
    → line_count (written case) < 2 ^ 32 - 5
unfolding written
written_few case few slots leaves =
    let es = case.tracks in
    let all : length es * length (slots_of case) ≡ length es * slot_count case.first case.last =
    ap (λ (n : ℕ). length es * n) (length-range_with_len 0 (slot_count case.first case.last)) in
    omega (
      arith,
      boxes_few case 0 es,
      all,
      length-map (enumerate_from 0 es) (shell_line case),
      length-enumerate_from 0 es,
      ap (λ (ss : List PlainLeaf). length ss) (leaves_alike case),
      few,
      slots,
      leaves,
    )

-- the case of what is found is small enough for that, where it has no more leaves than may be
pub found_few : (found : Findings) → length (list_candidates (case_in found)) ≤ MOST_LEAVES → line_count (written (case_in found)) < 2 ^ 32 - 5
found_few found leaves =
    let case = case_in found in
    let problem = found.problem in
    let objects : length case.tracks ≡ length problem.tracks = length-map problem.tracks plain_track in
    let few : length case.tracks ≤ MOST_OBJECTS = omega (arith, objects, problem.few) in
    let slots : length case.tracks * slot_count case.first case.last ≤ MOST_OBJECT_SLOTS =
    subst (λ (n : ℕ). n * slot_count case.first case.last ≤ MOST_OBJECT_SLOTS) (sym objects) problem.few_slots in
    written_few case few slots leaves

-- ---- the inputs of a check

-- three steps that come to a value each come to one
all_there : {A B C D : Type 0} (f : A → B → C → D) (r : Result A Status) (q : Result B Status) (p : Result C Status) (z : D)
    → (r >>= λ x. q >>= λ y. p >>= λ w. Ok (f x y w)) ≡ Ok z → (x : A) × (y : B) × (w : C) × (r ≡ Ok x) × (q ≡ Ok y) × (p ≡ Ok w) × (f x y w ≡ z)
all_there f (Ok x) (Ok y) (Ok w) z is = (x, y, w, refl, refl, refl, cc)
all_there f (Ok x) (Ok y) (Err s) z is = absurd cc
all_there f (Ok x) (Err s) p z is = absurd cc
all_there f (Err s) q p z is = absurd cc

-- what the inputs of a check are that are there
record AreInputs (files : List FileBytes) (checking : PlainChecking) (inputs : PlainInputs) : Type 0 where
  case : case_with_updates files checking.settings checking.update ≡ Ok inputs.case
  bytes : certificate_named (most_certificate_bytes checking.settings.large) files checking.certificate ≡ Ok inputs.bytes
  report : report_if_named (most_certificate_bytes checking.settings.large) files checking.report ≡ Ok inputs.report

inputs_there : (files : List FileBytes) (checking : PlainChecking) (inputs : PlainInputs) → inputs_asked files checking ≡ Ok inputs → AreInputs files checking inputs
unfolding inputs_asked
inputs_there files checking inputs there =
    let all = all_there (λ case bytes report. record { case = case; bytes = bytes; report = report }) (case_with_updates files checking.settings checking.update)
    (certificate_named (most_certificate_bytes checking.settings.large) files checking.certificate) (report_if_named (most_certificate_bytes checking.settings.large) files checking.report) inputs there in
    record {
      case = all.3 ∙ ap (λ (x : PlainInputs). Ok x.case) all.6;
      bytes = all.4 ∙ ap (λ (x : PlainInputs). Ok x.bytes) all.6;
      report = all.5 ∙ ap (λ (x : PlainInputs). Ok x.report) all.6;
    }

-- the report of the inputs is that of the file that was named, where one was
reported : (checking : PlainChecking) (files : List FileBytes) (case : PlainProblem) (cells : List PlainLeaf) (report named : Option (List ℕ)) → report_if_named (most_certificate_bytes checking.settings.large) files named ≡ Ok report
    → IfSome report (AcceptedReport (tells_of checking.settings) case cells) → IfSome named (VouchesReport checking files case cells)
reported checking files case cells report None is holds = tt
reported checking files case cells report (Some name) is holds = go (report_named (most_certificate_bytes checking.settings.large) files name) refl is
  where
    go : (r : Result (List ℕ) Status) → report_named (most_certificate_bytes checking.settings.large) files name ≡ r → (r >>= λ bytes. Ok (Some bytes)) ≡ Ok report → VouchesReport checking files case cells name
    go (Ok bytes) read same =
        let some : Some bytes ≡ report = cc in
        record { bytes = bytes; named = read; holds = subst (λ (o : Option (List ℕ)). IfSome o (AcceptedReport (tells_of checking.settings) case cells)) (sym some) holds }
    go (Err s) read same = absurd cc

-- where the inputs of a check are there, the certificate is accepted, and the report too where there is one, this is so of the files that were named
pub vouched : (files : List FileBytes) (checking : PlainChecking) (inputs : PlainInputs) → inputs_asked files checking ≡ Ok inputs
    → (holds : AcceptedText inputs.case inputs.bytes) → IfSome inputs.report (AcceptedReport (tells_of checking.settings) inputs.case (cells_in holds.certificate))
    → Vouches checking files
vouched files checking inputs there holds beside =
    let are = inputs_there files checking inputs there in
    record {
      case = inputs.case;
      read = are.case;
      bytes = inputs.bytes;
      named = are.bytes;
      holds = holds;
      reported = reported checking files inputs.case (cells_in holds.certificate) inputs.report checking.report are.report beside;
    }

-- the same of a certificate that is rewritten
pub renews : (files : List FileBytes) (checking : PlainChecking) (inputs : PlainInputs) (renewed : PlainAnyCertificate) → inputs_asked files checking ≡ Ok inputs → RenewedText inputs.case inputs.bytes renewed
    → (case_asked files checking.settings ≡ Ok inputs.case → length (text_in renewed) ≤ most_certificate_bytes checking.settings.large → IsAcceptedLater checking.settings checking.brief files (text_in renewed)) → Renews checking files renewed
renews files checking inputs renewed there holds later =
    let are = inputs_there files checking inputs there in
    record {
      case = inputs.case;
      read = are.case;
      bytes = inputs.bytes;
      named = are.bytes;
      holds = holds;
      later = λ none. later (subst (λ (u : Option (List ℕ)). case_with_updates files checking.settings u ≡ Ok inputs.case) none are.case);
    }
