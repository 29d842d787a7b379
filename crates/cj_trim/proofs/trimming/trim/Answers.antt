use Rattle.std.proofs.Common.{subst}
use Rattle.std.specs.List.{All}
use Rattle.cj_track.specs.declared.segment.Segment.{Segment}
use Rattle.cj_track.specs.Nodes.{AreNodes}
use Rattle.cj_trim.proofs.TrimLemmas.{track_same}
use Rattle.cj_trim.proofs.trimming.trim.Goals as goal

pub returns-clause-trim_same : goal.returns-clause-trim_same
returns-clause-trim_same c =
    track_same c.args.window.first.micros c.args.window.last.micros c.args.track.now
    (subst (All (λ (s : Segment). AreNodes s.nodes)) c.as_slice.ensures.value c.in_ok-segments.ensures.nodes)
