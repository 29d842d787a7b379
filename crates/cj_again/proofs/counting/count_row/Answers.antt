use Rattle.std.proofs.Common.{◌≡◌, ◌<◌, ◌≤◌, ◌+◌, filter, length, sym, ◌∙◌, arith}
use Rattle.cj_case.proofs.PairLemmas.{row_to}
use Rattle.cj_case.specs.Problems.{plain_problem}
use Rattle.cj_sieve.proofs.KeptLemmas.{counted_more, counted_same}
use Rattle.cj_bezier.specs.Candidates.{is_kept_unchanged}
use Rattle.cj_again.proofs.counting.count_row.Goals as goal
use Rattle.cj_again.proofs.counting.count_row.Goals.{then-is_kept_too, else-is_kept_too}

pub loop-b-preserved : goal.loop-b-preserved
loop-b-preserved c =
    let p = is_kept_unchanged (plain_problem c.args.matching.now.old.now) (plain_problem c.args.matching.now.new.now) in
    let a = c.args.a in
    let b = c.loop-b.b in
    let lt : a < b = omega arith in
    let i = c.loop-b.invariant in
    record {
      counted = elim c.if-is_kept_too.branch as (λ w. c.if-is_kept_too.count ≡ length (filter p (row_to a (b + 1)))) [
        | then-is_kept_too w ↦ w.count-is ∙ counted_more p a b c.loop-b.count lt (sym c.is_kept_too.ensures ∙ w.if-is_kept_too.true) i.counted
        | else-is_kept_too w ↦ w.count-is ∙ counted_same p a b c.loop-b.count lt (sym c.is_kept_too.ensures ∙ w.if-is_kept_too.false) i.counted
      ];
      few = elim c.if-is_kept_too.branch as (λ w. c.if-is_kept_too.count ≤ b + 1) [
        | then-is_kept_too w ↦ omega (arith, w.count-is, i.few)
        | else-is_kept_too w ↦ omega (arith, w.count-is, i.few)
      ];
    }
