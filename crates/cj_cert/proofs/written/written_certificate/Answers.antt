use Rattle.std.proofs.Common.{ℕ, List, length, sym, ap, subst, ◌∙◌, arith}
use Rattle.std.specs.Prelude.{Option}
use Rattle.std.specs.List.{flat_map, range_with_len}
use Rattle.std.proofs.lemmas.List.{length-map}
use Rattle.cj_track.specs.Tracks.{plain_track}
use Rattle.cj_case.specs.Problems.{plain_problem}
use Rattle.cj_hermite.proofs.TrackLemmas.{objects_are}
use Rattle.cj_case.specs.declared.shells.Shell.{Shell}
use Rattle.cj_case.specs.Boxes.{plain_rows}
use Rattle.cj_cert.specs.Accepted.{Accepted}
use Rattle.cj_cert.specs.Certificates.{PlainCertificate}
use Rattle.cj_cert.specs.Written.{lines_by_boxes}
use Rattle.cj_bezier.proofs.AllBoxLemmas.{rows_count}
use Rattle.cj_cert.proofs.WrittenLineLemmas.{shells_count, shells_are, boxes_are, certificate_is}
use Rattle.cj_cert.proofs.written.written_certificate.Goals as goal

pub shell_lines-requires : goal.shell_lines-requires
shell_lines-requires c =
    let problem = c.args.problem.now in
    let few = problem.few in
    let shells = c.deref.ensures.value ∙ c.requires.measured.shells in
    omega (arith, few, ap (λ (ss : List (Option Shell)). length ss) shells, shells_count (plain_problem problem), length-map problem.tracks plain_track)

pub box_lines-requires : goal.box_lines-requires
box_lines-requires c =
    let problem = c.args.problem.now in
    let few = problem.few in
    omega (arith, few, rows_count (plain_problem problem) c.args.measured.now.boxes.rows c.requires.measured.boxes, length-map problem.tracks plain_track)

pub returns-clause-value : goal.returns-clause-value
returns-clause-value c =
    let case = plain_problem c.args.problem.now in
    let measured = c.args.measured.now in
    let objects = length c.as_slice.result.now in
    certificate_is case objects _ _ _ _ (objects_are c.args.problem.now.tracks c.as_slice.result.now c.as_slice.ensures.value) c.new.ensures.items
    (c.in_ok-shells.ensures ∙ shells_are case c.deref.result.now (c.deref.ensures.value ∙ c.requires.measured.shells))
    (c.in_ok-boxes.ensures.value
    ∙ ap (λ (n : ℕ). flat_map (lines_by_boxes (plain_rows measured.boxes.rows) measured.boxes.slots) (range_with_len 0 n)) (rows_count case measured.boxes.rows c.requires.measured.boxes)
    ∙ boxes_are case (plain_rows measured.boxes.rows) measured.boxes.slots c.requires.measured.boxes c.requires.measured.slots)
    (c.in_ok-cells.ensures ∙ c.requires.leaves)

pub returns-clause-accepted : goal.returns-clause-accepted
returns-clause-accepted c = subst (λ (x : PlainCertificate). Accepted (plain_problem c.args.problem.now) x) (sym (returns-clause-value c)) c.acceptance.ensures.written
