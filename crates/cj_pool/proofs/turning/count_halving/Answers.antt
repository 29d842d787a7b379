use Rattle.std.proofs.Common.{◌+◌, ◌<◌, ◌≤◌, inl, inr, ap, ◌∙◌, sym, subst, arith}
use Rattle.cj_ledger.specs.declared.count.Count.{Count}
use Rattle.cj_pool.proofs.turning.count_halving.Goals as goal

pub returns-then-split-limit-clause-cells : goal.returns-then-split-limit-clause-cells
returns-then-split-limit-clause-cells c =
    let told = ap (λ (v : Count). v.leaves) c.halt.ensures.count ∙ c.split.ensures.told in
    let times = ap (λ l. l.times) told in
    inr (
      ap (λ (v : Count). v.cells) c.halt.ensures.count ∙ ap (λ n. n + 1) c.split.ensures.halts.0,
      omega (arith, times),
      subst (λ n. c.args.limit < n) (sym (ap (λ l. l.last) told)) c.if-split-limit.true,
    )

pub returns-else-split-limit-clause-cells : goal.returns-else-split-limit-clause-cells
returns-else-split-limit-clause-cells c =
    let told = c.split.ensures.told in
    let times = ap (λ l. l.times) told in
    inl (c.split.ensures.halts.0, inr (omega (arith, times), subst (λ n. n ≤ c.args.limit) (sym (ap (λ l. l.last) told)) c.if-split-limit.false))
