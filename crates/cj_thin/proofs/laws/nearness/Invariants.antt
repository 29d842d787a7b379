use Rattle.std.proofs.Common.{take}
use Rattle.std.specs.List.{All}
use Rattle.cj_track.specs.Tracks.{plain_track}
use Rattle.cj_thin.specs.Thinned.{thinned}
use Rattle.cj_thin.specs.Within.{IsThinnerWithin}
use Rattle.cj_thin.proofs.laws.nearness.Given as goal

-- the tracks so far
abbrev pub invariant-loop-track : goal.invariant-loop-track
invariant-loop-track l = All (λ track. IsThinnerWithin l.e (plain_track track) (thinned l.e (plain_track track))) (take l.track-index l.tracks)
