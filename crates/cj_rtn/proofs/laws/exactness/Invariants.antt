use Rattle.std.proofs.Common.{take}
use Rattle.std.specs.Prelude.{All}
use Rattle.cj_hermite.specs.Pieces.{pieces_of}
use Rattle.cj_rtn.specs.Exact.{IsTame}
use Rattle.cj_track.specs.Tracks.{plain_track}
use Rattle.cj_rtn.proofs.laws.exactness.Given as goal

abbrev pub invariant-loop-track : goal.invariant-loop-track
invariant-loop-track l = All (λ t. All IsTame (pieces_of (plain_track t))) (take l.track-index l.tracks)
