use Rattle.std.proofs.Common.{◌∙◌, subst, sym}
use Rattle.cj_track.specs.Nodes.{AreNodes}
use Rattle.cj_track.proofs.nodes.Nodes.as_slice.Goals as goal

pub returns-clause-value : goal.returns-clause-value
returns-clause-value c = c.deref.ensures.value ∙ c.self.view_is

pub returns-clause-kept : goal.returns-clause-kept
returns-clause-kept c = subst AreNodes (sym c.deref.ensures.value) c.self.invariant
