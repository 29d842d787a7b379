-- What the outputs that are due say.
use Rattle.std.proofs.Common.{◌≡◌, ℕ, ◌<◌, List, true, false, Result, Ok, Err, refl, sym, ap, subst, ◌∙◌, length, ◌≤◌, arith}
use Rattle.std.specs.Prelude.{nat_le, IfOk, OnOk}
use Rattle.std.proofs.lemmas.Bool.Decides.{nat_tests}
use Rattle.std.proofs.lemmas.List.{length-map}
use Rattle.cj_io.specs.declared.file.FileBytes.{FileBytes}
use Rattle.cj_formats.specs.declared.cert_format.CertFormat.{CertFormat}
use Rattle.cj_formats.specs.declared.cert_format.CertFormat.TheVariants.{Full, Brief}
use Rattle.cj_formats.specs.declared.cert_version.CertVersion.{CertVersion}
use Rattle.cj_words.specs.Commands.{PlainScreening}
use Rattle.cj_case.specs.PlainProblems.{PlainProblem}
use Rattle.cj_case.specs.declared.leaf.Leaf.{Leaf}
use Rattle.cj_case.specs.Leaves.{PlainLeaf, plain_leaf, plain_leaves}
use Rattle.cj_blocks.specs.Rewritten.{written_in}
use Rattle.cj_brief.specs.Accepted.{AcceptedInBrief}
use Rattle.cj_brief.specs.Written.{written_in_brief}
use Rattle.cj_cells.specs.Lists.{list_candidates}
use Rattle.cj_cells.specs.declared.refine_error.RefineError.{RefineError}
use Rattle.cj_cells.specs.declared.refine_error.RefineError.TheVariants as refine
use Rattle.cj_cert.specs.Accepted.{Accepted}
use Rattle.cj_outputs.specs.declared.findings.Findings.{Findings}
use Rattle.cj_outputs.specs.declared.wanted.Wanted.{Wanted}
use Rattle.cj_status.specs.declared.status.Status.{Status}
use Rattle.cj_status.specs.declared.status.Status.TheVariants as status
use Rattle.cj_status.specs.Steps.{ComesBetween, Stops}
use Rattle.cj_screen.specs.Errors.{refined_status}
use Rattle.cj_outputs.specs.Again.{IsAcceptedLater}
use Rattle.cj_outputs.specs.Either.{IsAcceptedFor, any_written, is_brief}
use Rattle.cj_outputs.specs.Messages.{PlainOrigin}
use Rattle.cj_inputs.specs.Coverings.{case_covered}
use Rattle.cj_outputs.specs.Outcome.{cert_bytes, few_told, outputs_with, told_in, within_cells, within_told}
use Rattle.cj_outputs.specs.Findings.{AreFound, case_in, cert_in, lines_of, outputs_in, report_in}
use Rattle.cj_screen.specs.Headline.{Reports, ReportsOf}
use Rattle.cj_screen.proofs.CoverLemmas.{whole_window}

-- what ends the search for leaves is no read
pub never_read : {A B : Type 0} (s : Status) (r : Result A Status) → Stops ⊥ s r → ¬ ◌≡◌ {A = Result B Status} (Err s) (Err status.ReadFault)
never_read {A = A} s r stops = λ is. let same : s ≡ status.ReadFault = cc in subst (λ (t : Status). Stops ⊥ t r) same stops

-- a list of leaves that is whole
pub few_leaves : (limit : ℕ) (leaves : List PlainLeaf) → length leaves ≤ limit → within_cells limit leaves ≡ Ok leaves
few_leaves limit leaves few = let small : nat_le (length leaves) limit ≡ true = grind (arith, nat_tests) in rw small refl

-- a list of leaves that is not whole
pub stops_refined : (limit : ℕ) (leaves : List PlainLeaf) (e : RefineError) → (e ≡ refine.TooMany → limit < length leaves)
    → Stops ⊥ (refined_status limit e) (within_cells limit leaves)
stops_refined limit leaves refine.Memory many = tt
stops_refined limit leaves refine.TooMany many =
    let more = many refl in
    let large : nat_le (length leaves) limit ≡ false = grind (arith, nat_tests) in
    rw large refl

-- want of memory and a limit may end a run there
pub between_refined : (limit : ℕ) (e : RefineError) → ComesBetween (refined_status limit e)
between_refined limit refine.Memory = tt
between_refined limit refine.TooMany = tt

-- the outputs of what is found in a case
pub same_outputs : (wanted : Wanted) (origin : PlainOrigin) (behind : List ℕ) (case : PlainProblem) (found : Findings) → case_in found ≡ case → found.wanted ≡ wanted → lines_of found.behind ≡ behind
    → AreFound found → outputs_with wanted.tells wanted.format origin behind case (list_candidates case) ≡ outputs_in origin found
same_outputs wanted origin behind case found same as_wanted lines are =
    sym (ap (λ (c : PlainProblem). outputs_with found.wanted.tells found.wanted.format origin (lines_of found.behind) c (list_candidates c)) same
    ∙ ap (λ (w : Wanted). outputs_with w.tells w.format origin (lines_of found.behind) case (list_candidates case)) as_wanted
    ∙ ap (λ (b : List ℕ). outputs_with wanted.tells wanted.format origin b case (list_candidates case)) lines)

-- ---- the leaves that are told

-- as many are told as their list is long
pub told_counted : (most : ℕ) (format : CertFormat) (case : PlainProblem) (items told : List Leaf) → told ≡ items → plain_leaves items ≡ told_in format case
    → few_told most (length told) ≡ within_told most format case
told_counted most format case items told lent are =
    ap (few_told most) (ap (λ (ls : List Leaf). length ls) lent ∙ sym (length-map items plain_leaf) ∙ ap (λ (ss : List PlainLeaf). length ss) are)

-- the report of findings is that of the case that was asked
pub reports : (files : List FileBytes) (screening : PlainScreening) (case : PlainProblem) → case_covered files screening.settings ≡ Ok case → (r : Result Findings Status)
    → IfOk r (λ found. ReportsOf screening.settings case (report_in found).bytes (cert_in found).bytes) → IfOk r (λ found. case_in found ≡ case)
    → IfOk r (λ found. found.wanted.format ≡ screening.format)
    → OnOk r (IsAcceptedLater screening.settings (is_brief screening.format) files (cert_bytes screening.format case))
    → IfOk r (λ found. Reports screening files (report_in found).bytes (cert_in found).bytes)
reports files screening case read (Ok found) of_case same told later = record {
  case = case;
  read = read;
  whole = whole_window files screening.settings case read;
  of_case = of_case;
  later = subst (λ (f : CertFormat). IsAcceptedLater screening.settings (is_brief screening.format) files (cert_bytes f (case_in found))) (sym told)
      (subst (λ (c : PlainProblem). IsAcceptedLater screening.settings (is_brief screening.format) files (cert_bytes screening.format c)) (sym same) later);
}
reports files screening case read (Err s) of_case same told later = tt

-- the certificate that is written is accepted, in whichever format
pub written_accepted : (case : PlainProblem) (format : CertFormat) → ((version : CertVersion) → Accepted case (written_in version case))
    → AcceptedInBrief case (written_in_brief case) → IsAcceptedFor case (any_written format case)
written_accepted case (Full version) full brief = full version
written_accepted case Brief full brief = brief
