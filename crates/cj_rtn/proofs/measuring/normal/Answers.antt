use Rattle.std.proofs.Common.{sym, ap, subst, ◌∙◌}
use Rattle.cj_rtn.specs.declared.vector.Vector.{Vector}
use Rattle.cj_rtn.specs.Axes.{NORMAL_UNIT, normal}
use Rattle.cj_rtn.specs.Vectors.{IsEachWithin, divided}
use Rattle.cj_rtn.proofs.SizeLemmas.{normal_each}
use Rattle.cj_rtn.proofs.measuring.normal.Goals as goal

pub returns-clause-value : goal.returns-clause-value
unfolding normal
returns-clause-value c = c.divided.ensures ∙ ap (λ (a : Vector). divided a NORMAL_UNIT) c.cross.ensures.value

pub returns-clause-within : goal.returns-clause-within
returns-clause-within c =
    subst (IsEachWithin 2_096_000_000_000_000_000) (sym (returns-clause-value c)) (normal_each c.args.state.now c.requires.place c.requires.rate)
