use Rattle.std.proofs.Common.{subst}
use Rattle.std.specs.List.{All}
use Rattle.cj_track.specs.declared.segment.Segment.{Segment}
use Rattle.cj_track.specs.Nodes.{AreNodes}
use Rattle.cj_thin.proofs.ThinLemmas.{track_within}
use Rattle.cj_thin.proofs.thinning.thin.Goals as goal

pub returns-clause-law : goal.returns-clause-law
returns-clause-law c =
    track_within c.args.e c.args.track.now c.requires.least (subst (All (λ (s : Segment). AreNodes s.nodes)) c.as_slice.ensures.value c.in_ok-segments.ensures.nodes)
