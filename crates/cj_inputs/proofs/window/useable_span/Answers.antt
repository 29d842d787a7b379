use Rattle.std.proofs.Common.{List, map, ap, ◌∙◌}
use Rattle.cj_track.specs.declared.segment.Segment.{Segment}
use Rattle.cj_track.specs.Tracks.{plain_segment}
use Rattle.cj_track.specs.PlainTracks.{first_of, last_of}
use Rattle.cj_inputs.specs.Windows.{least, greatest}
use Rattle.cj_inputs.proofs.WindowLemmas.{starts_at, stops_at}
use Rattle.cj_inputs.proofs.window.useable_span.Goals as goal

pub returns-in-Some-Some-clause-first : goal.returns-in-Some-Some-clause-first
returns-in-Some-Some-clause-first c =
    let segments = c.as_slice-segments in
    starts_at segments.result.now c.in-Some-Some.first.now segments.ensures.kept.order c.in-Some-Some.ensures.value
    ∙ ap (λ (ss : List Segment). least (map first_of (map plain_segment ss))) segments.ensures.value

pub returns-in-Some-Some-clause-last : goal.returns-in-Some-Some-clause-last
returns-in-Some-Some-clause-last c =
    let segments = c.as_slice-segments in
    stops_at segments.result.now c.in-Some-Some.last.now segments.ensures.kept.order c.in-Some-Some.ensures'.value
    ∙ ap (λ (ss : List Segment). greatest (map last_of (map plain_segment ss))) segments.ensures.value
