-- Tracks of one frame, and the frame of what they say.
use Rattle.std.proofs.Common.{◌≡◌, ◌∙◌, ℕ, zero, suc, ◌<◌, List, [], ◌∷◌, length, map, get_or, sym, arith}
use Rattle.cj_case.specs.Frames.{HaveOneFrame}
use Rattle.cj_track.specs.Tracks.{plain_track}
use Rattle.cj_track.specs.declared.frame.Frame.{Frame}
use Rattle.cj_track.specs.declared.frame.Frame.TheVariants as frames
use Rattle.cj_track.specs.declared.track.Track.{Track}
use Rattle.cj_inputs.proofs.UpdateLemmas.{AreOf}

each_of : (frame : Frame) (tracks : List Track) → ((i : ℕ) (d : Track) → i < length tracks → (get_or tracks i d).frame ≡ frame) → AreOf frame (map plain_track tracks)
each_of frame [] each = tt
each_of frame (track ∷ tracks) each = (each 0 track (omega arith), each_of frame tracks (λ i d below. each (suc i) d (omega (arith, below))))

-- tracks of one frame have this one
pub frame_said : (tracks : List Track) → HaveOneFrame tracks → (frame : Frame) × AreOf frame (map plain_track tracks)
frame_said [] one = (frames.Eme2000, tt)
frame_said (track ∷ tracks) one = (track.frame, each_of track.frame (track ∷ tracks) (λ i d below. one i 0 d below (omega arith)))

here_of : (frame : Frame) (tracks : List Track) → AreOf frame (map plain_track tracks) → (i : ℕ) (d : Track) → i < length tracks → (get_or tracks i d).frame ≡ frame
here_of frame [] are i d below = absurd (omega (arith, below))
here_of frame (track ∷ tracks) are zero d below = are.0
here_of frame (track ∷ tracks) are (suc i) d below = here_of frame tracks are.1 i d (omega (arith, below))

-- and those that have it are of one frame
pub one_frame : (frame : Frame) (tracks : List Track) → AreOf frame (map plain_track tracks) → HaveOneFrame tracks
one_frame frame tracks are = λ i j d below_i below_j. here_of frame tracks are i d below_i ∙ sym (here_of frame tracks are j d below_j)
