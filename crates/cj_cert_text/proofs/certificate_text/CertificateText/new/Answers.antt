use Rattle.std.proofs.Common.{ℕ, List, length, ap, ◌∙◌, arith}
use Rattle.std.specs.Prelude.{Option, flat_map}
use Rattle.std.specs.List.{range_with_len}
use Rattle.std.proofs.lemmas.List.{length-map}
use Rattle.cj_formats.specs.declared.cert_version.CertVersion.TheVariants.{One}
use Rattle.cj_track.specs.Tracks.{plain_track}
use Rattle.cj_case.specs.Problems.{plain_problem}
use Rattle.cj_hermite.proofs.TrackLemmas.{objects_are}
use Rattle.cj_case.specs.declared.shells.Shell.{Shell}
use Rattle.cj_case.specs.Boxes.{plain_rows}
use Rattle.cj_bezier.proofs.AllBoxLemmas.{rows_count}
use Rattle.cj_cert_text.specs.Texts.{box_text}
use Rattle.cj_cert.specs.Written.{lines_by_boxes}
use Rattle.cj_cert.proofs.WrittenLineLemmas.{boxes_are, shells_are, shells_count}
use Rattle.cj_cert_text.proofs.WrittenTextLemmas.{all_left}
use Rattle.cj_cert_text.proofs.certificate_text.CertificateText.new.Goals as goal

pub shell_lines-requires : goal.shell_lines-requires
shell_lines-requires c =
    let problem = c.args.problem.now in
    let few = problem.few in
    let shells = c.deref.ensures.value ∙ c.requires.measured.shells in
    omega (arith, few, ap (λ (ss : List (Option Shell)). length ss) shells, shells_count (plain_problem problem), length-map problem.tracks plain_track)

pub boxes_by_object-requires : goal.boxes_by_object-requires
boxes_by_object-requires c =
    let problem = c.args.problem.now in
    let few = problem.few in
    omega (arith, few, rows_count (plain_problem problem) c.args.measured.now.boxes.rows c.requires.measured.boxes, length-map problem.tracks plain_track)

pub returns-clause-value : goal.returns-clause-value
returns-clause-value c =
    let case = plain_problem c.args.problem.now in
    let measured = c.args.measured.now in
    let count = objects_are c.args.problem.now.tracks c.as_slice.result.now c.as_slice.ensures.value in
    let lines = flat_map (lines_by_boxes (plain_rows measured.boxes.rows) measured.boxes.slots) in
    let boxes = c.in_ok-boxes_by_object.ensures One
    ∙ ap (λ (n : ℕ). flat_map (box_text One) (lines (range_with_len 0 n))) (rows_count case measured.boxes.rows c.requires.measured.boxes)
    ∙ ap (flat_map (box_text One)) (boxes_are case (plain_rows measured.boxes.rows) measured.boxes.slots c.requires.measured.boxes c.requires.measured.slots) in
    all_left case (length c.as_slice.result.now) c.in_ok-shell_lines.field-0.items c.in_ok-boxes_by_object.field-0.items c.args.leaves.now
    c.in_ok-head.field-0.items c.in_ok-end.field-0.items
    count (c.in_ok-shell_lines.ensures ∙ shells_are case c.deref.result.now (c.deref.ensures.value ∙ c.requires.measured.shells)) boxes c.requires.leaves
    c.in_ok-head.ensures c.in_ok-end.ensures
