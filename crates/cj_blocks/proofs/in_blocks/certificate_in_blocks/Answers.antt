use Rattle.std.proofs.Common.{◌∙◌, List, length, map, ap, sym, subst, arith}
use Rattle.std.specs.Prelude.{Option}
use Rattle.std.proofs.lemmas.List.{length-map}
use Rattle.cj_formats.specs.declared.cert_version.CertVersion.TheVariants.{Two}
use Rattle.cj_track.specs.Tracks.{plain_track}
use Rattle.cj_case.specs.Pairs.{objects_of}
use Rattle.cj_case.specs.Problems.{plain_problem}
use Rattle.cj_hermite.proofs.TrackLemmas.{objects_are}
use Rattle.cj_case.specs.declared.shells.Shell.{Shell}
use Rattle.cj_bezier.specs.Candidates.{is_kept}
use Rattle.cj_case.specs.Boxes.{plain_rows}
use Rattle.cj_cert.specs.Accepted.{Accepted}
use Rattle.cj_cert.specs.Certificates.{PlainCertificate, plain_box_line, plain_cell_line}
use Rattle.cj_cert.specs.Written.{size_lines}
use Rattle.cj_blocks.proofs.InBlocksLemmas.{pairs_of_objects, written_is}
use Rattle.cj_bezier.proofs.AllBoxLemmas.{rows_count}
use Rattle.cj_cert.proofs.WrittenLineLemmas.{shells_count, shells_are}
use Rattle.cj_blocks.proofs.in_blocks.certificate_in_blocks.Goals as goal

pub shell_lines-requires : goal.shell_lines-requires
shell_lines-requires c =
    let problem = c.args.problem.now in
    let few = problem.few in
    let shells = c.deref.ensures.value ∙ c.requires.measured.shells in
    omega (arith, few, ap (λ (ss : List (Option Shell)). length ss) shells, shells_count (plain_problem problem), length-map problem.tracks plain_track)

pub block_lines-requires-clause-exist : goal.block_lines-requires-clause-exist
block_lines-requires-clause-exist c =
    let problem = c.args.problem.now in
    let case = plain_problem problem in
    pairs_of_objects (length case.tracks) (length problem.tracks) (is_kept case) c.args.kept.now c.requires.kept (length-map problem.tracks plain_track)

pub block_lines-requires-clause-all : goal.block_lines-requires-clause-all
block_lines-requires-clause-all c =
    let problem = c.args.problem.now in
    rows_count (plain_problem problem) c.args.measured.now.boxes.rows c.requires.measured.boxes ∙ length-map problem.tracks plain_track

pub block_lines-requires-clause-wide : goal.block_lines-requires-clause-wide
block_lines-requires-clause-wide c = c.requires.measured.slots

pub returns-clause-value : goal.returns-clause-value
returns-clause-value c =
    let problem = c.args.problem.now in
    let case = plain_problem problem in
    written_is case (length c.as_slice.result.now) c.in_ok-sizes.sizes.items c.in_ok-shells.shells.items (map plain_box_line c.in_ok-boxes.boxes.items) (map plain_cell_line c.in_ok-cells.cells.items)
    (plain_rows c.args.measured.now.boxes.rows) (map objects_of c.args.kept.now)
    (objects_are problem.tracks c.as_slice.result.now c.as_slice.ensures.value)
    (c.in_ok-sizes.ensures ∙ ap size_lines c.as_slice-2.ensures.value)
    (c.in_ok-shells.ensures ∙ shells_are case c.deref.result.now (c.deref.ensures.value ∙ c.requires.measured.shells))
    c.in_ok-boxes.ensures
    c.requires.measured.boxes
    c.requires.kept
    (c.in_ok-cells.ensures ∙ c.requires.leaves)

pub returns-clause-accepted : goal.returns-clause-accepted
returns-clause-accepted c = subst (λ (x : PlainCertificate). Accepted (plain_problem c.args.problem.now) x) (sym (returns-clause-value c)) (c.acceptance_in_blocks.ensures.in_version Two)
