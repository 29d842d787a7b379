use Rattle.std.proofs.Common.{refl}
use Rattle.cj_track.specs.Tracks.{plain_track}
use Rattle.cj_hermite.proofs.PieceLemmas.{in_segment}
use Rattle.cj_hermite.proofs.finding.segment_of.Goals as goal

pub returns : goal.returns
returns c =
    in_segment (plain_track c.args.track.now) c.args.index c.segment_number.result c.args.track.now.segments refl c.requires c.segment_number.ensures.exists c.segment_number.ensures.last
