use Rattle.std.proofs.Common.{◌≡◌, ◌+◌, ◌<◌, ◌≤◌, List, filter, length, map, take, sym, ap, subst, ◌∙◌, arith}
use Rattle.std.proofs.lemmas.List.{take_all}
use Rattle.cj_case.specs.declared.pair.Pair.{Pair}
use Rattle.cj_case.specs.Pairs.{objects_of}
use Rattle.cj_case.specs.Problems.{plain_problem}
use Rattle.cj_case.specs.Unchanged.{is_unchanged}
use Rattle.cj_again.proofs.SelectedLemmas.{left_count, selected_count}
use Rattle.cj_again.proofs.counting.count_unchanged.Goals as goal
use Rattle.cj_again.proofs.counting.count_unchanged.Goals.{then-is_unchanged, else-is_unchanged}

pub is_unchanged-requires : goal.is_unchanged-requires
is_unchanged-requires c =
    let lt : c.loop-pair.pair-index < length c.args.pairs.now = omega arith in
    subst (λ (p : Pair). p.b < length c.args.matching.now.new.now.tracks) (sym c.pair-item.is) (c.requires c.loop-pair.pair-index c.pair-item.result lt)

pub loop-pair-preserved : goal.loop-pair-preserved
loop-pair-preserved c =
    let test = is_unchanged (plain_problem c.args.matching.now.old.now) (plain_problem c.args.matching.now.new.now) in
    let pairs = c.args.pairs.now in
    let k = c.loop-pair.pair-index in
    let lt : k < length pairs = omega arith in
    let i = c.loop-pair.invariant in
    record {
      counted = elim c.if-is_unchanged.branch as (λ w. c.if-is_unchanged.count ≡ length (filter test (map objects_of (take (k + 1) pairs)))) [
        | then-is_unchanged w ↦ w.count-is ∙ selected_count objects_of test pairs k c.pair-item.result lt c.pair-item.is c.loop-pair.count i.counted (sym c.is_unchanged.ensures ∙ w.if-is_unchanged.true)
        | else-is_unchanged w ↦ w.count-is ∙ left_count objects_of test pairs k c.pair-item.result lt c.pair-item.is c.loop-pair.count i.counted (sym c.is_unchanged.ensures ∙ w.if-is_unchanged.false)
      ];
      few = elim c.if-is_unchanged.branch as (λ w. c.if-is_unchanged.count ≤ k + 1) [
        | then-is_unchanged w ↦ omega (arith, w.count-is, i.few)
        | else-is_unchanged w ↦ omega (arith, w.count-is, i.few)
      ];
    }

pub returns : goal.returns
returns c =
    let test = is_unchanged (plain_problem c.args.matching.now.old.now) (plain_problem c.args.matching.now.new.now) in
    c.loop-pair.invariant.counted ∙ ap (λ (ps : List Pair). length (filter test (map objects_of ps))) (take_all c.loop-pair.pair-index c.args.pairs.now (omega arith))
