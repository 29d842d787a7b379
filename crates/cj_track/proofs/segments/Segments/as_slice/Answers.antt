use Rattle.std.proofs.Common.{◌∙◌, subst, sym}
use Rattle.cj_track.specs.Segments.{AreSegments}
use Rattle.cj_track.proofs.segments.Segments.as_slice.Goals as goal

pub returns-clause-value : goal.returns-clause-value
returns-clause-value c = c.deref.ensures.value ∙ c.self.view_is

pub returns-clause-kept : goal.returns-clause-kept
returns-clause-kept c = subst AreSegments (sym c.deref.ensures.value) c.self.invariant.0
