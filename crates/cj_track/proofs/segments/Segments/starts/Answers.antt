use Rattle.std.proofs.Common.{◌∙◌, ap, subst}
use Rattle.cj_track.specs.Segments.{AreSegments, starts_from}
use Rattle.cj_track.proofs.segments.Segments.starts.Goals as goal

pub returns-clause-value : goal.returns-clause-value
returns-clause-value c = c.deref.ensures.value ∙ (c.self.invariant.1 ∙ ap (starts_from 0) c.self.view_is)

pub returns-clause-kept : goal.returns-clause-kept
returns-clause-kept c = subst AreSegments c.self.view_is c.self.invariant.0
