use Rattle.std.proofs.Common.{take}
use Rattle.std.specs.Prelude.{All}
use Rattle.cj_track.specs.Tracks.{plain_track}
use Rattle.cj_hermite.specs.Lengths.{IsRising}
use Rattle.cj_pool.proofs.lengths.have_lengths.Given as goal

abbrev pub invariant-loop-track : goal.invariant-loop-track
invariant-loop-track l = All (λ t. IsRising (plain_track t)) (take l.track-index l.track-items)
