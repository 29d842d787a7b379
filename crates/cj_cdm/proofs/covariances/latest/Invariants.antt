use Rattle.std.proofs.Common.{◌≡◌, map, take, option_map}
use Rattle.cj_track.specs.Tracks.{plain_matrix}
use Rattle.cj_cdm.specs.Covariances.{latest, not_after}
use Rattle.cj_cdm.proofs.covariances.latest.Given as goal

abbrev pub invariant-loop-matrix : goal.invariant-loop-matrix
invariant-loop-matrix l = option_map (λ m. plain_matrix m.now) l.latest ≡ latest (not_after l.at.micros (map plain_matrix (take l.matrix-index l.matrices)))
