-- The sizes of the objects of a run, by the file that its command line names for them.
use Rattle.std.specs.Prelude.{ℕ, List, [], map, position, Option, Some, None, Result, Ok, Err}
use Rattle.std.specs.Str.{bytes_eq}
use Rattle.cj_io.specs.declared.file.FileBytes.{FileBytes}
use Rattle.cj_io.specs.Files.{bytes_of, names_of}
use Rattle.cj_sizes.specs.Reading.{Fault, reading}
use Rattle.cj_sizes.specs.Sizes.{Size, radius_of}
use Rattle.cj_track.specs.PlainTracks.{PlainTrack}
use Rattle.cj_status.specs.declared.status.Status.{Status}
use Rattle.cj_status.specs.declared.status.Status.TheVariants.{BadFile}
use Rattle.cj_status.specs.declared.status.FileCause.TheVariants.{Sizes, NoSizes}
use Rattle.cj_status.specs.Steps.{◌>>=◌}
use Rattle.cj_inputs.specs.Readings.{within_bytes}

-- the number of the first file with a name
abbrev pub first_named : List ℕ → List (List ℕ) → Option ℕ
first_named name names = position (λ other. bytes_eq other name) names

-- a fault of the file of sizes with this name, as the run's cause
abbrev pub refused_sizes : List ℕ → Result (List Size) Fault → Result (List Size) Status
refused_sizes name (Ok sizes) = Ok sizes
refused_sizes name (Err fault) = Err (BadFile name fault.line (Sizes fault.cause))

-- what a file of sizes is read as
unfoldable pub sizes_of_file : List ℕ → List ℕ → Result (List Size) Status
sizes_of_file name bytes = do
  whole ← within_bytes name bytes
  refused_sizes name (reading whole)

-- what the file with this number says, which has this name; there may be none
abbrev pub sizes_at : List FileBytes → List ℕ → Option ℕ → Result (List Size) Status
sizes_at files name None = Err (BadFile name 0 NoSizes)
sizes_at files name (Some number) = sizes_of_file name (bytes_of files number)

-- what the first file with a name says, and nothing where no name is given
unfoldable pub sizes_asked : List FileBytes → Option (List ℕ) → Result (List Size) Status
sizes_asked files None = Ok []
sizes_asked files (Some name) = sizes_at files name (first_named name (names_of files))

-- the size of each object, a radius in nm: the one that is given for its id, and 0 where none is
abbrev pub object_sizes : List Size → List PlainTrack → List ℕ
object_sizes sizes es = map (λ e. radius_of sizes e.id) es
