use Rattle.std.proofs.Common.{◌≡◌, ◌<◌, ◌≤◌, ◌+◌, filter, length, sym, ◌∙◌, arith}
use Rattle.cj_case.proofs.PairLemmas.{row_to}
use Rattle.cj_sieve.specs.Among.{keeps_among}
use Rattle.cj_sieve.proofs.KeptLemmas.{counted_more, counted_same}
use Rattle.cj_sieve.proofs.pair_filter.count_row.Goals as goal
use Rattle.cj_sieve.proofs.pair_filter.count_row.Goals.{then-keeps, else-keeps}

pub loop-b-preserved : goal.loop-b-preserved
loop-b-preserved c =
    let p = keeps_among c.args.objects.now in
    let a = c.args.a in
    let b = c.loop-b.b in
    let lt : a < b = omega arith in
    let i = c.loop-b.invariant in
    record {
      counted = elim c.if-keeps.branch as (λ w. c.if-keeps.count ≡ length (filter p (row_to a (b + 1)))) [
        | then-keeps w ↦ w.count-is ∙ counted_more p a b c.loop-b.count lt (sym c.keeps.ensures.value ∙ w.if-keeps.true) i.counted
        | else-keeps w ↦ w.count-is ∙ counted_same p a b c.loop-b.count lt (sym c.keeps.ensures.value ∙ w.if-keeps.false) i.counted
      ];
      few = elim c.if-keeps.branch as (λ w. c.if-keeps.count ≤ b + 1) [
        | then-keeps w ↦ omega (arith, w.count-is, i.few)
        | else-keeps w ↦ omega (arith, w.count-is, i.few)
      ];
    }
