use Rattle.std.proofs.Common.{take, All}
use Rattle.cj_cert.proofs.TrackLemmas.{IsRuled}
use Rattle.cj_cert.proofs.accepting.acceptance.Given as goal

-- the tracks so far
abbrev pub invariant-loop-track : goal.invariant-loop-track
invariant-loop-track l = All IsRuled (take l.track-index l.tracks)
