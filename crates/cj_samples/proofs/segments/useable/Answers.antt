use Rattle.std.proofs.Common.{refl}
use Rattle.cj_samples.proofs.segments.useable.Goals as goal

pub returns-clause-first : goal.returns-clause-first
returns-clause-first c = c.second.ensures

pub returns-clause-value : goal.returns-clause-value
returns-clause-value c = rw (c.second.ensures, c.second-2.ensures, c.new.ensures, c.in_ok-vec.ensures.items, c.new-3.ensures, c.new-2.ensures.items) refl
