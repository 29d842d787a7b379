use Rattle.std.proofs.Common.{◌-◌, ◌^◌, get_or, pos, arith, sym, ◌∙◌, subst}
use Rattle.std.specs.Prelude.{ℤ}
use Rattle.std.proofs.lemmas.List.{get_or-map}
use Rattle.cj_interval.specs.declared.span.Span.{Span}
use Rattle.cj_interval.specs.Sizes.{IsWithin}
use Rattle.cj_interval.proofs.MachineLemmas.{back}
use Rattle.cj_meet.proofs.flatness.end.Goals as goal

pub returns-clause-value : goal.returns-clause-value
returns-clause-value c =
    let hi = (get_or c.args.gap.now.terms c.args.number c.index-gap-number.result).hi in
    let end : IsWithin (2 ^ 126 - 1) hi = (c.args.gap.now.within c.args.number c.index-gap-number.result (omega arith)).high in
    back hi (omega arith) ∙ sym (get_or-map (λ (s : Span). s.hi) c.args.gap.now.terms c.args.number c.index-gap-number.result (pos 0) (omega arith))

pub returns-clause-within : goal.returns-clause-within
returns-clause-within c =
    let hi = (get_or c.args.gap.now.terms c.args.number c.index-gap-number.result).hi in
    let end : IsWithin (2 ^ 126 - 1) hi = (c.args.gap.now.within c.args.number c.index-gap-number.result (omega arith)).high in
    subst (λ (z : ℤ). IsWithin (2 ^ 126) z) {x = hi} (sym (back hi (omega arith))) (omega arith)
