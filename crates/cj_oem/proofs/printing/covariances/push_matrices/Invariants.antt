use Rattle.std.proofs.Common.{◌≡◌, ◌++◌, map, take, length, All}
use Rattle.std.specs.Prelude.{flat_map}
use Rattle.cj_oem.specs.Canonical.{covariance_text}
use Rattle.cj_track.specs.Tracks.{plain_matrix}
use Rattle.cj_oem.proofs.printing.covariances.push_matrices.Given as goal

abbrev pub invariant-loop-matrix : goal.invariant-loop-matrix
invariant-loop-matrix l = record {
  text : l.text.items ≡ l.fn.text.items ++ flat_map covariance_text (map plain_matrix (take l.matrix-index l.matrices));
  kept : All (λ m. length m.values ≡ 21) (take l.matrix-index l.matrices);
}
