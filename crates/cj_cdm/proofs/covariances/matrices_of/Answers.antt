use Rattle.std.proofs.Common.{◌≡◌, Some, option_map, get_or, map, ap, sym, ◌∙◌}
use Rattle.std.proofs.Math.ListN.{get_or-map}
use Rattle.cj_track.specs.declared.segment.Segment.{Segment}
use Rattle.cj_track.specs.PlainTracks.{PlainSegment}
use Rattle.cj_track.specs.Tracks.{plain_matrix, plain_segment, plain_track}
use Rattle.cj_cdm.proofs.SegmentLemmas.{segment_found}
use Rattle.cj_cdm.proofs.covariances.matrices_of.Goals as goal

pub returns : goal.returns
returns c =
    let segments = c.args.track.now.segments in
    let number = c.segment_of-number.result in
    let segment = c.index-as_slice-number.result in
    let is : segment ≡ get_or segments number segment = c.index-as_slice-number.is ∙ ap (λ ss. get_or ss number segment) c.as_slice.ensures.value in
    let there = get_or-map plain_segment segments number segment ∙ ap plain_segment (sym is) in
    ap (option_map (λ (segment : PlainSegment). segment.covariances)) (segment_found (plain_track c.args.track.now) c.args.index number (plain_segment segment) c.segment_of-number.ensures)
    ∙ ap (λ (segment : PlainSegment). Some segment.covariances) there
    ∙ ap (λ ms. Some (map plain_matrix ms)) (sym (c.as_slice-2.ensures ∙ ap (λ (s : Segment). s.matrices) (sym c.index-as_slice-number.is)))
