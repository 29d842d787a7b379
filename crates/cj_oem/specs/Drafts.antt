-- How the program keeps the covariances that are being read.
use Rattle.std.specs.Prelude.{ℕ, ◌+◌, ◌*◌, ◌/◌, false, [], map, take, option_map, Some, Result, Ok}
use Rattle.cj_base.specs.Decimals.{number_of}
use Rattle.cj_formats.specs.declared.oem_cause.OemCause.{OemCause}
use Rattle.cj_oem.specs.declared.draft.CovarianceDraft as kept_draft
use Rattle.cj_oem.specs.declared.covariances.Covariances as kept_covariances
use Rattle.cj_oem.specs.CovarianceRows.{CovarianceDraft, Covariances}
use Rattle.cj_kvn.specs.Faults.{◌>>=◌}
use Rattle.cj_track.specs.Tracks.{plain_matrix}

-- how many values the first rows of a lower triangle have
abbrev pub value_count : ℕ → ℕ
value_count rows = rows * (rows + 1) / 2

-- the matrix so far
abbrev pub draft_of : kept_draft.CovarianceDraft → CovarianceDraft
draft_of d = record { at = d.at.micros; framed = d.framed; rtn = d.rtn; rows = d.rows; values = map number_of (take (value_count d.rows) d.values) }

-- the covariances so far
abbrev pub covariances_of : kept_covariances.Covariances → Covariances
covariances_of m = record { whole = map plain_matrix m.whole.items; draft = option_map draft_of m.draft }

-- a matrix of which only the epoch was read
abbrev pub begun : ℕ → CovarianceDraft
begun at = record { at = at; framed = false; rtn = false; rows = 0; values = [] }

-- the covariances with this matrix as the one that is being read
abbrev pub with_draft : Covariances → Result CovarianceDraft OemCause → Result Covariances OemCause
with_draft m said = said >>= λ d. Ok (record m { draft = Some d })
