-- The outputs of tracks with fewer nodes.
use Rattle.std.specs.Prelude.{ℕ, ◌*◌, List, [], ◌∷◌, ◌++◌, map, length, Result, Ok, codes}
use Rattle.std.specs.Fmt.{decimal}
use Rattle.cj_base.specs.Limits.{USUAL}
use Rattle.cj_io.specs.declared.file.FileBytes.{FileBytes}
use Rattle.cj_track.specs.PlainTracks.{PlainTrack}
use Rattle.cj_oem.specs.Canonical.{text_of}
use Rattle.cj_thin.specs.Thinned.{thinned}
use Rattle.cj_words.specs.Commands.{PlainThinning}
use Rattle.cj_inputs.specs.Alone.{tracks_asked}
use Rattle.cj_inputs.specs.Readings.{nodes_in}
use Rattle.cj_status.specs.declared.status.Status.{Status}
use Rattle.cj_status.specs.Steps.{◌>>=◌}

-- how far an object may be from where it was, in nm
abbrev pub length_of : PlainThinning → ℕ
length_of thinning = thinning.within * 1_000_000_000

-- the output of a track with fewer nodes within e nm
abbrev pub thin_output : ℕ → PlainTrack → FileBytes
thin_output e track = record { name = track.file ++ codes ".thin"; bytes = text_of (thinned e track) }

-- how many files there are, how many nodes were read, and how many are kept
abbrev pub thinned_bytes : ℕ → ℕ → ℕ → List ℕ
thinned_bytes files read kept = codes "THINNED " ++ decimal files ++ 32 ∷ [] ++ decimal read ++ 32 ∷ [] ++ decimal kept ++ 10 ∷ []

-- those of tracks, for standard output
abbrev pub counts_output : ℕ → List PlainTrack → FileBytes
counts_output e tracks = record { name = codes "-"; bytes = thinned_bytes (length tracks) (nodes_in tracks) (nodes_in (map (thinned e) tracks)) }

-- the outputs of tracks: each with fewer nodes, and these counts
abbrev pub outputs_with_fewer : ℕ → List PlainTrack → List FileBytes
outputs_with_fewer e tracks = map (thin_output e) tracks ++ counts_output e tracks ∷ []

-- the outputs of the tracks that are asked of the files, or the first cause for which there are none
unfoldable pub outputs_thinned : List FileBytes → PlainThinning → Result (List FileBytes) Status
outputs_thinned files thinning = tracks_asked USUAL files thinning >>= λ tracks. Ok (outputs_with_fewer (length_of thinning) tracks)
