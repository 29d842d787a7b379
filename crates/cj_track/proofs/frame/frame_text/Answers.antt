use Rattle.std.proofs.Common.{ap, sym}
use Rattle.cj_track.specs.Frames.{frame_text}
use Rattle.cj_track.proofs.frame.frame_text.Goals as goal

pub returns-in-Eme2000 : goal.returns-in-Eme2000
returns-in-Eme2000 c = record { name = sym (ap frame_text c.in-Eme2000.is) }

pub returns-in-Gcrf : goal.returns-in-Gcrf
returns-in-Gcrf c = record { name = sym (ap frame_text c.in-Gcrf.is) }
