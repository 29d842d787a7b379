use Rattle.std.proofs.Common.{◌≡◌, ◌∙◌, ◌<◌, ◌&&◌, false, true, Option, Some, None, length, map, option_map, ap, subst, sym, arith}
use Rattle.std.specs.List.{list_all, range_with_len}
use Rattle.std.proofs.lemmas.List.{take_all}
use Rattle.std.proofs.lemmas.List.Folds.{list_all-map, list_all_at, list_all_more}
use Rattle.cj_case.specs.declared.pair.Pair.{Pair}
use Rattle.cj_case.specs.Pairs.{objects_of}
use Rattle.cj_case.specs.Boxes.{PlainBox, plain_box, plain_rows}
use Rattle.cj_blocks.specs.Blocks.{touches_as_own}
use Rattle.cj_blocks.specs.BoxRows.{box_at}
use Rattle.cj_blocks.proofs.JoinLemmas.{all_joined, none_joined, not_joined, pair_test}
use Rattle.cj_blocks.proofs.RowLemmas.{own_round, own_test}
use Rattle.cj_blocks.proofs.joining.joined_box.Goals as goal

pub box_round-requires : goal.box_round-requires
box_round-requires c = c.of_object-own.ensures.len ∙ c.requires.wide

pub of_object-own-requires : goal.of_object-own-requires
of_object-own-requires c = omega (arith, c.requires.exists, c.requires.all)

pub of_object-other-requires : goal.of_object-other-requires
of_object-other-requires c =
    let exists = subst (λ (p : Pair). p.b < length c.args.sizes.now) (sym c.pair-item.is) (c.requires.exist c.loop-pair.pair-index c.pair-item.result (omega arith)) in
    omega (arith, exists, c.partner_of.ensures.most, c.requires.same)

pub touches_as_own-requires-clause-own : goal.touches_as_own-requires-clause-own
touches_as_own-requires-clause-own c = c.of_object-own.ensures.len ∙ c.requires.wide

pub touches_as_own-requires-clause-other : goal.touches_as_own-requires-clause-other
touches_as_own-requires-clause-other c = c.of_object-other.ensures.len ∙ c.requires.same_wide

pub returns-in_err-box_round : goal.returns-in_err-box_round
returns-in_err-box_round c =
    let s = c.args.slots in
    let own = box_at (plain_rows c.args.boxes.now.rows) in
    let current = box_at (plain_rows c.args.current.now.rows) in
    let gone : c.from_residual.result ≡ None = cc in
    ap (option_map plain_box) gone
    ∙ sym (none_joined c.args.thr c.args.sizes.now (map objects_of c.args.pairs.now) own current c.args.object (range_with_len s.first s.count)
    (sym (ap (option_map plain_box) c.in_err-box_round.was) ∙ own_round c.args.boxes.now.rows c.args.object c.of_object-own.result.now s.first s.count c.box_round.result c.of_object-own.ensures.row c.box_round.ensures))

pub returns-then-not-touches_as_own : goal.returns-then-not-touches_as_own
returns-then-not-touches_as_own c =
    let s = c.args.slots in
    let slots = range_with_len s.first s.count in
    let own = box_at (plain_rows c.args.boxes.now.rows) in
    let current = box_at (plain_rows c.args.current.now.rows) in
    let round : Option PlainBox = Some (plain_box c.in_ok-box_round.field-0) in
    let test = touches_as_own c.args.thr c.args.sizes.now own current c.args.object slots round in
    let pair = c.pair-item.result in
    let fails : c.touches_as_own.result ≡ false = cc in
    let here : test (objects_of pair) ≡ false =
    sym (pair_test c.args.thr c.threshold_between-between.result c.partner_of.result c.args.sizes.now own current c.args.object slots round (objects_of pair) c.threshold_between-between.ensures.value c.partner_of.ensures.value)
    ∙ sym (own_test c.args.boxes.now.rows c.args.current.now.rows c.args.object c.partner_of.result c.of_object-own.result.now c.of_object-other.result.now c.threshold_between-between.result round slots c.touches_as_own.result
    c.of_object-own.ensures.row c.of_object-other.ensures.row c.touches_as_own.ensures) ∙ fails in
    sym (not_joined c.args.thr c.args.sizes.now (map objects_of c.args.pairs.now) own current c.args.object slots round (sym (ap (option_map plain_box) c.in_ok-box_round.was) ∙ own_round c.args.boxes.now.rows c.args.object c.of_object-own.result.now s.first s.count c.box_round.result c.of_object-own.ensures.row c.box_round.ensures)
    (list_all-map test objects_of c.args.pairs.now
    ∙ list_all_at (λ (p : Pair). test (objects_of p)) c.args.pairs.now c.loop-pair.pair-index pair (omega arith) (ap (λ (p : Pair). test (objects_of p)) (sym c.pair-item.is) ∙ here)))

pub returns : goal.returns
returns c =
    let s = c.args.slots in
    let slots = range_with_len s.first s.count in
    let own = box_at (plain_rows c.args.boxes.now.rows) in
    let current = box_at (plain_rows c.args.current.now.rows) in
    let round : Option PlainBox = Some (plain_box c.in_ok-box_round.field-0) in
    let test = touches_as_own c.args.thr c.args.sizes.now own current c.args.object slots round in
    sym (all_joined c.args.thr c.args.sizes.now (map objects_of c.args.pairs.now) own current c.args.object slots round (sym (ap (option_map plain_box) c.in_ok-box_round.was) ∙ own_round c.args.boxes.now.rows c.args.object c.of_object-own.result.now s.first s.count c.box_round.result c.of_object-own.ensures.row c.box_round.ensures)
    (list_all-map test objects_of c.args.pairs.now
    ∙ ap (list_all (λ (p : Pair). test (objects_of p))) (sym (take_all c.loop-pair.pair-index c.args.pairs.now (omega arith))) ∙ c.loop-pair.invariant))

pub loop-pair-preserved : goal.loop-pair-preserved
loop-pair-preserved c =
    let s = c.args.slots in
    let slots = range_with_len s.first s.count in
    let own = box_at (plain_rows c.args.boxes.now.rows) in
    let current = box_at (plain_rows c.args.current.now.rows) in
    let round : Option PlainBox = Some (plain_box c.in_ok-box_round.field-0) in
    let test = touches_as_own c.args.thr c.args.sizes.now own current c.args.object slots round in
    let pair = c.pair-item.result in
    let holds : c.touches_as_own.result ≡ true = cc in
    let here : test (objects_of pair) ≡ true =
    sym (pair_test c.args.thr c.threshold_between-between.result c.partner_of.result c.args.sizes.now own current c.args.object slots round (objects_of pair) c.threshold_between-between.ensures.value c.partner_of.ensures.value)
    ∙ sym (own_test c.args.boxes.now.rows c.args.current.now.rows c.args.object c.partner_of.result c.of_object-own.result.now c.of_object-other.result.now c.threshold_between-between.result round slots c.touches_as_own.result
    c.of_object-own.ensures.row c.of_object-other.ensures.row c.touches_as_own.ensures) ∙ holds in
    list_all_more (λ (p : Pair). test (objects_of p)) c.args.pairs.now c.loop-pair.pair-index pair (omega arith)
    ∙ (λ i. c.loop-pair.invariant i && (ap (λ (p : Pair). test (objects_of p)) (sym c.pair-item.is) ∙ here) i)
