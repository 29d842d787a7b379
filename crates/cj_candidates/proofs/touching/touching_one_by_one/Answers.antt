use Rattle.std.proofs.Common.{◌<◌, List, Vec, Global, filter, map, length, sym, ap, subst, ◌∙◌, arith}
use Rattle.std.proofs.lemmas.List.{take_all}
use Rattle.std.proofs.lemmas.Result.{err_from_is_err_and}
use Rattle.cj_case.specs.declared.pair.Pair.{Pair}
use Rattle.cj_case.specs.Pairs.{objects_of}
use Rattle.cj_bezier.specs.SlotBoxes.{touch_between}
use Rattle.cj_case.specs.Boxes.{plain_boxes}
use Rattle.cj_candidates.proofs.KeepingLemmas.{pair_found, pair_passed}
use Rattle.cj_candidates.proofs.touching.touching_one_by_one.Goals as goal
use Rattle.cj_candidates.proofs.touching.touching_one_by_one.Goals.{then-pair_touches+in_ok-push, else-pair_touches}

pub pair_touches-requires-clause-exists : goal.pair_touches-requires-clause-exists
pair_touches-requires-clause-exists c =
    let lt : c.loop-pair.pair-index < length c.args.pairs.now = omega arith in
    subst (λ (p : Pair). p.b < length c.args.boxes.now) (sym c.pair-item.is) (c.requires.exist c.loop-pair.pair-index c.pair-item.result lt)

pub loop-pair-preserved : goal.loop-pair-preserved
loop-pair-preserved c =
    let p = touch_between c.args.thr c.args.sizes.now (plain_boxes c.args.boxes.now) in
    let pairs = c.args.pairs.now in
    let k = c.loop-pair.pair-index in
    let pair = c.pair-item.result in
    let lt : k < length pairs = omega arith in
    elim c.if-pair_touches.branch [
      | then-pair_touches+in_ok-push w ↦
          ap (λ (v : Vec Pair Global). map objects_of v.items) w.some-is
          ∙ pair_found p pairs c.loop-pair.some.items _ k pair lt c.pair-item.is (sym c.pair_touches.ensures ∙ w.if-pair_touches.true) w.in_ok-push.ensures.items c.loop-pair.invariant
      | else-pair_touches w ↦
          ap (λ (v : Vec Pair Global). map objects_of v.items) w.some-is
          ∙ pair_passed p pairs c.loop-pair.some.items k pair lt c.pair-item.is (sym c.pair_touches.ensures ∙ w.if-pair_touches.false) c.loop-pair.invariant
    ]

pub returns : goal.returns
returns c =
    let pairs = c.args.pairs.now in
    let all = take_all c.loop-pair.pair-index pairs (omega arith) in
    c.loop-pair.invariant ∙ ap (λ (some : List Pair). filter (touch_between c.args.thr c.args.sizes.now (plain_boxes c.args.boxes.now)) (map objects_of some)) all

pub loop-pair-init : goal.loop-pair-init
loop-pair-init c = ap (λ (some : List Pair). map objects_of some) c.new-some.ensures.items

pub returns-in_err-push : goal.returns-in_err-push
returns-in_err-push c = rw (err_from_is_err_and c.from_residual.result c.from_residual.ensures.1).1 tt
