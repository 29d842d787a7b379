-- Reference frames by their names.
use Rattle.std.specs.Prelude.{ℕ, List, codes}
use Rattle.cj_track.specs.declared.frame.Frame.{Frame}
use Rattle.cj_track.specs.declared.frame.Frame.TheVariants as frames

abbrev pub frame_text : Frame → List ℕ
frame_text frames.Eme2000 = codes "EME2000"
frame_text frames.Gcrf = codes "GCRF"
