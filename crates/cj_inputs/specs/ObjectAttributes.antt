-- What files beside ephemerides say of the objects of a run: their sizes, and which of them are primaries.
use Rattle.std.specs.Prelude.{ℕ, List, ◌++◌, Option, Result, Ok}
use Rattle.std.specs.Option.{option_map}
use Rattle.cj_io.specs.declared.file.FileBytes.{FileBytes}
use Rattle.cj_sizes.specs.Sizes.{Size, sizes_of}
use Rattle.cj_track.specs.PlainTracks.{PlainTrack}
use Rattle.cj_words.specs.Settings.{PlainSettings}
use Rattle.cj_status.specs.declared.status.Status.{Status}
use Rattle.cj_status.specs.Steps.{◌>>=◌}
use Rattle.cj_inputs.specs.declared.object_attributes.Attributes.{Attributes}
use Rattle.cj_inputs.specs.ObjectPrimaries.{ids_of, primaries_asked}
use Rattle.cj_inputs.specs.ObjectSizes.{sizes_asked}

-- the sizes that are given, and the designators of the primaries, where such are named
pub record PlainAttributes : Type 0 where
  pub sizes : List Size
  pub primaries : Option (List (List ℕ))

abbrev pub plain_attributes : Attributes → PlainAttributes
plain_attributes attributes = record { sizes = sizes_of attributes.sizes.items; primaries = option_map (λ ids. ids.items) attributes.primaries }

-- what the files that are named say, or the first cause for which they do not, where the objects are those of these ephemerides and of others
unfoldable pub attributes_asked : List PlainTrack → List PlainTrack → List FileBytes → PlainSettings → Result PlainAttributes Status
attributes_asked es others files settings = do
  sizes ← sizes_asked files settings.sizes
  primaries ← primaries_asked (ids_of es ++ ids_of others) files settings.primaries
  Ok (record { sizes = sizes; primaries = primaries })
