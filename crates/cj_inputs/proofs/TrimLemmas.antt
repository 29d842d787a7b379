-- What is taken of a track that is read.
use Rattle.std.proofs.Common.{◌≡◌, ℕ, Option, Some, None, Ok, Err, Result, refl, ap}
use Rattle.std.specs.Prelude.{IfErr}
use Rattle.cj_track.specs.PlainTracks.{PlainTrack}
use Rattle.cj_trim.specs.Trimmed.{trimmed}
use Rattle.cj_status.specs.declared.status.Status.{Status}
use Rattle.cj_status.specs.Steps.{◌>>=◌}
use Rattle.cj_inputs.specs.declared.reading.InputError.{InputError}
use Rattle.cj_inputs.specs.Readings.{Reads}
use Rattle.cj_inputs.specs.Trims.{left_of, left_said}
use Rattle.cj_inputs.proofs.ReadingLemmas.{reads_on}

-- what is taken is what is left of what is read
pub left_there : (trims : Option (ℕ × ℕ)) (said : Result PlainTrack Status) (e : PlainTrack) → left_said trims said ≡ Ok e → (whole : PlainTrack) × (said ≡ Ok whole) × (left_of trims whole ≡ e)
left_there None said e is = (e, is, refl)
left_there (Some window) (Ok whole) e is = (whole, refl, cc)
left_there (Some window) (Err s) e is = absurd cc

pub left_ok : (trims : Option (ℕ × ℕ)) (said : Result PlainTrack Status) (whole : PlainTrack) → said ≡ Ok whole → left_said trims said ≡ Ok (left_of trims whole)
left_ok None said whole is = is
left_ok (Some window) said whole is = ap (λ (r : Result PlainTrack Status). r >>= λ e. Ok (trimmed window.0 window.1 e)) is

-- what is not read is not taken, for the same cause
pub reads_left : {X : Type 0} (P : Type 0) (view : X → PlainTrack) (why : InputError) (trims : Option (ℕ × ℕ)) (said : Result PlainTrack Status) → Reads P view (Err why) said
    → Reads P view (Err why) (left_said trims said)
reads_left P view why None said here = here
reads_left P view why (Some window) said here = reads_on P view view why said (λ e. Ok (trimmed window.0 window.1 e)) here

-- the name of its file stays
pub left_file : (trims : Option (ℕ × ℕ)) (e : PlainTrack) → (left_of trims e).file ≡ e.file
left_file None e = refl
left_file (Some window) e = refl

-- how a reading ends, where it is not there, holds of what is taken of it
pub left_ends : (P : Status → Type 0) (trims : Option (ℕ × ℕ)) (said : Result PlainTrack Status) → IfErr said P → IfErr (left_said trims said) P
left_ends P None said ends = ends
left_ends P (Some window) (Ok whole) ends = tt
left_ends P (Some window) (Err s) ends = ends
