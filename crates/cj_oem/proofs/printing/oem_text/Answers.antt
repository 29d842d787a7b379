use Rattle.std.proofs.Common.{◌++◌, ◌∙◌, ap, map, arith, rules, subst, take_all, All}
use Rattle.std.specs.Prelude.{flat_map, false}
use Rattle.cj_oem.specs.Canonical.{header_text, segment_text, text_of}
use Rattle.cj_oem.specs.Reading.{reading}
use Rattle.cj_track.specs.Segments.{AreSegments}
use Rattle.cj_track.specs.Tracks.{plain_segment, plain_track}
use Rattle.cj_oem.proofs.AgainLemmas.{text_again}
use Rattle.cj_oem.proofs.TextLemmas.{all_more, part_more_of}
use Rattle.cj_oem.proofs.TrackAgainLemmas.{Keeps, track_written}
use Rattle.cj_oem.proofs.printing.oem_text.Goals as goal

pub loop-segment-preserved : goal.loop-segment-preserved
loop-segment-preserved c =
    let segments = c.as_slice-segments.result.now in
    let i = c.loop-segment.segment-index in
    let segment = c.segment-item.result in
    record {
      text =
          part_more_of (segment_text (plain_track c.args.track.now)) plain_segment segments i segment header_text c.loop-segment.text.items c.push_segment.new.text.items
          (omega arith) (search rules) c.loop-segment.invariant.text c.in_ok-push_segment.ensures.text;
      kept = all_more Keeps segments i segment (omega arith) (search rules) c.loop-segment.invariant.kept (c.in_ok-push_segment.ensures.nodes, c.in_ok-push_segment.ensures.matrices);
    }

pub returns-clause-value : goal.returns-clause-value
unfolding text_of
returns-clause-value c =
    let e = plain_track c.args.track.now in
    let all = take_all c.loop-segment.segment-index c.as_slice-segments.result.now (omega arith) in
    c.loop-segment.invariant.text ∙ ap (λ ss. header_text ++ flat_map (segment_text e) (map plain_segment ss)) (all ∙ c.as_slice-segments.ensures.value)

pub returns-clause-again : goal.returns-clause-again
returns-clause-again c short =
    let track = c.args.track.now in
    let all = take_all c.loop-segment.segment-index c.as_slice-segments.result.now (omega arith) in
    let rules = subst AreSegments c.as_slice-segments.ensures.value c.as_slice-segments.ensures.kept in
    let keeps = subst (All Keeps) (all ∙ c.as_slice-segments.ensures.value) c.loop-segment.invariant.kept in
    ap (λ text. reading track.file text false) (returns-clause-value c) ∙ text_again (plain_track track) (track_written track rules keeps)
