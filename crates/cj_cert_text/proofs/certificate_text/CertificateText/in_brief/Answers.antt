use Rattle.std.proofs.Common.{List, length, ap, ◌∙◌, arith}
use Rattle.std.specs.Prelude.{Option}
use Rattle.std.proofs.lemmas.List.{length-map}
use Rattle.cj_track.specs.Tracks.{plain_track}
use Rattle.cj_case.specs.Problems.{plain_problem}
use Rattle.cj_case.specs.declared.shells.Shell.{Shell}
use Rattle.cj_cert.proofs.WrittenLineLemmas.{shells_are, shells_count}
use Rattle.cj_cert_text.proofs.WrittenTextLemmas.{all_left_in_brief}
use Rattle.cj_cert_text.proofs.certificate_text.CertificateText.in_brief.Goals as goal

pub shell_lines-requires : goal.shell_lines-requires
shell_lines-requires c =
    let problem = c.args.problem.now in
    let few = problem.few in
    omega (arith, few, ap (λ (ss : List (Option Shell)). length ss) c.requires.shells, shells_count (plain_problem problem), length-map problem.tracks plain_track)

pub returns-clause-value : goal.returns-clause-value
returns-clause-value c =
    let case = plain_problem c.args.problem.now in
    all_left_in_brief case c.in_ok-shell_lines.field-0.items c.new.result.items c.args.told.now c.in_ok-head_in_brief.field-0.items c.in_ok-end.field-0.items
    (c.in_ok-shell_lines.ensures ∙ shells_are case c.args.shells.now c.requires.shells) c.new.ensures.items c.requires.leaves
    c.in_ok-head_in_brief.ensures c.in_ok-end.ensures
