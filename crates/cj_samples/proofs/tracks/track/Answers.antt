use Rattle.std.proofs.Common.{refl}
use Rattle.cj_samples.proofs.tracks.track.Goals as goal

pub returns-clause-value : goal.returns-clause-value
returns-clause-value c = rw (c.in_ok-copy_of.ensures, c.in_ok-copy_of-2.ensures, c.in_ok-copy_of-3.ensures, c.in_ok-new.ensures) refl
