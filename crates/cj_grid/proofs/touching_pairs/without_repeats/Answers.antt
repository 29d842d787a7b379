use Rattle.std.proofs.Common.{◌+◌, ◌++◌, List, Some, Vec, Global, None, map, drop, sym, ap, append-nil, ◌∙◌}
use Rattle.std.specs.Prelude.{option_map}
use Rattle.std.proofs.lemmas.List.{drop_all}
use Rattle.cj_case.specs.declared.pair.Pair.{Pair}
use Rattle.cj_case.specs.Pairs.{objects_of}
use Rattle.cj_grid.specs.Found.{unrepeated}
use Rattle.cj_grid.proofs.FoundLemmas.{turn_again, turn_new}
use Rattle.cj_grid.proofs.touching_pairs.without_repeats.Goals.{then-not-is_last+in_ok-push, else-not-is_last}
use Rattle.cj_grid.proofs.touching_pairs.without_repeats.Goals as goal

pub loop-pair-preserved : goal.loop-pair-preserved
loop-pair-preserved c =
    let sorted = c.args.sorted.now in
    let i = c.loop-pair.pair-index in
    let pair = c.pair-item.result in
    let last = option_map objects_of c.loop-pair.last in
    let whole = unrepeated None (map objects_of sorted) in
    let rest = unrepeated (Some (objects_of pair)) (map objects_of (drop (i + 1) sorted)) in
    elim c.if-not-is_last.branch [
      | then-not-is_last+in_ok-push w ↦
          ap (λ (ps : Vec Pair Global). map objects_of ps.items ++ rest) w.pairs-is
          ∙ ap (λ (ps : List Pair). map objects_of ps ++ rest) w.in_ok-push.ensures.items
          ∙ turn_new sorted i pair c.loop-pair.pairs.items whole last c.loop-pair-test.true c.pair-item.is (sym c.is_last.ensures ∙ w.if-not-is_last.true) c.loop-pair.invariant
      | else-not-is_last w ↦
          ap (λ (ps : Vec Pair Global). map objects_of ps.items ++ rest) w.pairs-is
          ∙ turn_again sorted i pair (map objects_of c.loop-pair.pairs.items) whole last c.loop-pair-test.true c.pair-item.is (sym c.is_last.ensures ∙ w.if-not-is_last.false) c.loop-pair.invariant
    ]

pub loop-pair-init : goal.loop-pair-init
loop-pair-init c = ap (λ (ps : List Pair). map objects_of ps ++ unrepeated None (map objects_of c.args.sorted.now)) c.in_ok-pairs.ensures.items

pub returns : goal.returns
returns c =
    let kept = map objects_of c.loop-pair.pairs.items in
    let all = drop_all c.loop-pair.pair-index c.args.sorted.now c.loop-pair-test.false in
    sym (append-nil kept) ∙ ap (λ (ps : List Pair). kept ++ unrepeated (option_map objects_of c.loop-pair.last) (map objects_of ps)) (sym all)
    ∙ c.loop-pair.invariant
