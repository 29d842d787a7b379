use Rattle.std.proofs.Common.{◌≡◌, ◌∙◌, ◌≤◌, length, true, Ok, ap}
use Rattle.cj_base.specs.Limits.{USUAL}
use Rattle.cj_formats.specs.declared.cert_format.CertFormat.{CertFormat}
use Rattle.cj_formats.specs.declared.cert_format.CertFormat.TheVariants.{Full, Brief}
use Rattle.cj_case.specs.Problems.{plain_problem}
use Rattle.cj_brief.specs.Written.{written_in_brief}
use Rattle.cj_blocks.specs.Rewritten.{in_version_2, written_in}
use Rattle.cj_outputs.specs.Again.{IsAcceptedLater}
use Rattle.cj_outputs.specs.Either.{is_brief}
use Rattle.cj_outputs.specs.Outcome.{cert_bytes, within_told}
use Rattle.cj_words.specs.Limits.{limits_of, most_told}
use Rattle.cj_cert_text.proofs.WrittenFitsLemmas.{IsOfRun}
use Rattle.cj_outputs.proofs.LaterLemmas.{in_full_usual, of_any_run, of_run, renewed_later, written_in_brief_later, written_later}
use Rattle.cj_inputs.proofs.WithinLemmas.{usual_objects}
use Rattle.cj_outputs.proofs.later.accepted_later.Goals as goal

run : (c : goal.After-as_slice-sizes) → length (plain_problem c.args.problem.now).tracks ≤ 2000 → IsOfRun (plain_problem c.args.problem.now)
run c few = of_run c.args.problem.now few c.as_slice-sizes.ensures.within c.acceptance.ensures.near

pub returns-clause-written : goal.returns-clause-written
returns-clause-written c settings files format read limited brief leaves told = go format brief told
  where
    go : (format : CertFormat) → (settings.large ≡ true → format ≡ Brief) → within_told (most_told settings.large) format (plain_problem c.args.problem.now) ≡ Ok tt
        → IsAcceptedLater settings (is_brief format) files (cert_bytes format (plain_problem c.args.problem.now))
    go (Full version) brief told =
        let case = plain_problem c.args.problem.now in
        let small = in_full_usual settings.large version brief in
        let usual : settings.limits ≡ USUAL = limited ∙ ap limits_of small in
        let few = usual_objects files settings case read usual in
        let accepted = c.acceptance_in_blocks.ensures.in_version version in
        written_later c.args.problem.now settings files version (run c few) c.acceptance.ensures.written accepted ((c.acceptance-2.ensures case (written_in version case)).1 accepted)
        read small usual leaves
    go Brief brief told =
        let case = plain_problem c.args.problem.now in
        let accepted = c.acceptance_in_brief.ensures.written in
        written_in_brief_later c.args.problem.now settings files (of_any_run c.args.problem.now c.as_slice-sizes.ensures.within) accepted
        ((c.acceptance_in_brief-2.ensures case (written_in_brief case)).1 accepted) read limited told

pub returns-clause-rewritten : goal.returns-clause-rewritten
returns-clause-rewritten c settings files brief certificate read may accepted fits short =
    let case = plain_problem c.args.problem.now in
    renewed_later settings files brief case certificate (run c)
    (λ d holds. (c.acceptance-2.ensures case (in_version_2 case d)).1 (c.acceptance_in_blocks.ensures.rewritten d holds))
    (λ d holds. (c.acceptance_in_brief-2.ensures case d).1 holds) read may accepted fits short
