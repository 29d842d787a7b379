-- What a thinning says of the tracks that it puts.
use Rattle.std.specs.Prelude.{◌≡◌, List, ◌++◌, Option, Some, Ok, All}
use Rattle.cj_base.specs.Limits.{USUAL}
use Rattle.cj_io.specs.declared.file.FileBytes.{FileBytes}
use Rattle.cj_track.specs.PlainTracks.{PlainTrack}
use Rattle.cj_thin.specs.Thinned.{thinned}
use Rattle.cj_thin.specs.Within.{IsThinnerWithin}
use Rattle.cj_words.specs.Commands.{PlainThinning}
use Rattle.cj_inputs.specs.Alone.{tracks_asked}
use Rattle.cj_outputs.specs.Thinned.{length_of, outputs_with_fewer}

-- These are the tracks that are asked of the files. Each is, with fewer nodes, within the length of where it was.
pub record AreThinned (thinning : PlainThinning) (files : List FileBytes) (tracks : List PlainTrack) : Type 0 where
  pub read : tracks_asked USUAL files thinning ≡ Ok tracks
  pub near : All (λ t. IsThinnerWithin (length_of thinning) t (thinned (length_of thinning) t)) tracks

-- the new outputs are those of such tracks
pub record IsThinned (thinning : PlainThinning) (files old : List FileBytes) (new : Option (List FileBytes)) : Type 0 where
  pub tracks : List PlainTrack
  pub thinned : AreThinned thinning files tracks
  pub put : new ≡ Some (old ++ outputs_with_fewer (length_of thinning) tracks)
