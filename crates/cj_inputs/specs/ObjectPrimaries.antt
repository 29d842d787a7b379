-- Which objects of a run are primaries, by the file that its command line names for them.
use Rattle.std.specs.Prelude.{ℕ, Bool, List, [], ◌∷◌, map, Option, Some, None, Result, Ok, Err, option_map}
use Rattle.cj_io.specs.declared.file.FileBytes.{FileBytes}
use Rattle.cj_io.specs.Files.{bytes_of, names_of}
use Rattle.cj_sizes.specs.Primaries.{Fault, has_id, reading}
use Rattle.cj_track.specs.PlainTracks.{PlainTrack}
use Rattle.cj_status.specs.declared.status.Status.{Status}
use Rattle.cj_status.specs.declared.status.Status.TheVariants.{BadFile}
use Rattle.cj_status.specs.declared.status.FileCause.TheVariants.{Primaries, NoPrimaries}
use Rattle.cj_status.specs.Steps.{◌>>=◌}
use Rattle.cj_inputs.specs.ObjectSizes.{first_named}
use Rattle.cj_inputs.specs.Readings.{within_bytes}

-- the designators of objects
abbrev pub ids_of : List PlainTrack → List (List ℕ)
ids_of es = map (λ e. e.id) es

-- a fault of the file of primaries with this name, as the run's cause. One that names nobody is none: a run that looks at nothing finds nothing
abbrev pub refused_primaries : List ℕ → Result (List (List ℕ)) Fault → Result (List (List ℕ)) Status
refused_primaries name (Ok []) = Err (BadFile name 0 NoPrimaries)
refused_primaries name (Ok (id ∷ ids)) = Ok (id ∷ ids)
refused_primaries name (Err fault) = Err (BadFile name fault.line (Primaries fault.cause))

-- what a file of primaries is read as, where objects have these designators
unfoldable pub primaries_of_file : List (List ℕ) → List ℕ → List ℕ → Result (List (List ℕ)) Status
primaries_of_file known name bytes = do
  whole ← within_bytes name bytes
  refused_primaries name (reading known whole)

-- what the file with this number says, which has this name; there may be none
abbrev pub primaries_at : List (List ℕ) → List FileBytes → List ℕ → Option ℕ → Result (List (List ℕ)) Status
primaries_at known files name None = Err (BadFile name 0 NoPrimaries)
primaries_at known files name (Some number) = primaries_of_file known name (bytes_of files number)

-- what the first file with a name says; none are named where no name is given
unfoldable pub primaries_asked : List (List ℕ) → List FileBytes → Option (List ℕ) → Result (Option (List (List ℕ))) Status
primaries_asked known files None = Ok None
primaries_asked known files (Some name) = primaries_at known files name (first_named name (names_of files)) >>= λ ids. Ok (Some ids)

-- whether each object is a primary: its designator is one of those that are named
abbrev pub object_primaries : Option (List (List ℕ)) → List PlainTrack → Option (List Bool)
object_primaries named es = option_map (λ ids. map (λ e. has_id ids e.id) es) named
