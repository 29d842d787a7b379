use Rattle.std.proofs.Common.{◌∙◌, List, length, map, ap}
use Rattle.std.specs.List.{range_with_len}
use Rattle.std.proofs.lemmas.List.{length-map}
use Rattle.cj_track.specs.declared.track.Track.{Track}
use Rattle.cj_track.specs.Tracks.{plain_track}
use Rattle.cj_case.specs.Pairs.{objects_of}
use Rattle.cj_case.specs.Problems.{plain_problem}
use Rattle.cj_hermite.proofs.TrackLemmas.{objects_are}
use Rattle.cj_bezier.specs.Shells.{keeps_between}
use Rattle.cj_case.specs.Boxes.{plain_rows}
use Rattle.cj_cert.specs.declared.cert_lines.BoxLine.{BoxLine}
use Rattle.cj_cert.specs.Certificates.{plain_box_line, plain_certificate}
use Rattle.cj_cert.specs.Listed.{box_listed, shells_listed}
use Rattle.cj_cert.specs.Written.{size_lines}
use Rattle.cj_blocks.proofs.InBlocksLemmas.{listed_in_order, pairs_of_objects, rewritten_is}
use Rattle.cj_blocks.proofs.in_blocks.rewritten.Goals as goal

pub block_lines-requires-clause-exist : goal.block_lines-requires-clause-exist
block_lines-requires-clause-exist c =
    let problem = c.args.problem.now in
    let case = plain_problem problem in
    pairs_of_objects (length case.tracks) (length problem.tracks) (keeps_between case.primaries case.threshold case.sizes (shells_listed (plain_certificate c.args.cert))) c.args.kept.now c.requires
    (length-map problem.tracks plain_track)

pub block_lines-requires-clause-all : goal.block_lines-requires-clause-all
block_lines-requires-clause-all c = c.in_ok-given.ensures.objects ∙ ap (λ (ts : List Track). length ts) c.as_slice.ensures.value

pub block_lines-requires-clause-wide : goal.block_lines-requires-clause-wide
block_lines-requires-clause-wide c = c.in_ok-given.ensures.slots ∙ c.slot_count.ensures

pub returns : goal.returns
returns c =
    let problem = c.args.problem.now in
    let case = plain_problem problem in
    let cert = plain_certificate c.args.cert in
    rewritten_is case cert c.in_ok-sizes.sizes.items (map plain_box_line c.in_ok-boxes.boxes.items) (plain_rows c.in_ok-given.given.rows) (map objects_of c.args.kept.now)
    (c.in_ok-sizes.ensures ∙ ap size_lines c.as_slice-2.ensures.value)
    c.in_ok-boxes.ensures
    (c.in_ok-given.ensures.value
    ∙ ap (λ (ls : List BoxLine). map (λ object. map (λ slot. box_listed (map plain_box_line ls) slot object) (range_with_len 0 c.slot_count.result)) (range_with_len 0 (length c.as_slice.result.now))) c.deref.ensures.value
    ∙ listed_in_order case cert.boxes (length c.as_slice.result.now) c.slot_count.result (objects_are problem.tracks c.as_slice.result.now c.as_slice.ensures.value) c.slot_count.ensures)
    c.requires
