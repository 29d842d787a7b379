use Rattle.std.proofs.Common.{◌^◌, sym, ap, subst, ◌∙◌}
use Rattle.cj_rtn.specs.declared.vector.Vector.{Vector}
use Rattle.cj_rtn.specs.Axes.{TRANSVERSE_UNIT, transverse}
use Rattle.cj_rtn.specs.Vectors.{IsEachWithin, cross, divided}
use Rattle.cj_rtn.proofs.SizeLemmas.{transverse_each}
use Rattle.cj_rtn.proofs.measuring.transverse.Goals as goal

pub returns-clause-value : goal.returns-clause-value
unfolding transverse
returns-clause-value c =
    c.divided.ensures ∙ ap (λ (a : Vector). divided a TRANSVERSE_UNIT) (c.cross.ensures.value ∙ ap (λ (a : Vector). cross a c.args.state.now.place) c.requires.normal)

pub returns-clause-within : goal.returns-clause-within
returns-clause-within c =
    let across = subst (IsEachWithin 2_096_000_000_000_000_000) c.requires.normal c.requires.within in
    subst (IsEachWithin (2 ^ 61)) (sym (returns-clause-value c)) (transverse_each c.args.state.now c.requires.place across)
