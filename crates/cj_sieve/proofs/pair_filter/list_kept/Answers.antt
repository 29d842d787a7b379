use Rattle.std.proofs.Common.{◌≡◌, ℕ, map, filter, length, ap, ◌∙◌, arith}
use Rattle.std.specs.List.{flat_map, range_with_len}
use Rattle.std.proofs.lemmas.Result.{IfOk-from_err}
use Rattle.cj_case.specs.Pairs.{objects_of}
use Rattle.cj_case.proofs.PairLemmas.{pairs_from, row_taken}
use Rattle.cj_sieve.specs.Among.{keeps_among}
use Rattle.cj_sieve.proofs.pair_filter.list_kept.Goals as goal

pub loop-a-preserved : goal.loop-a-preserved
loop-a-preserved c =
    let objects = c.args.objects.now in
    row_taken (keeps_among objects) (length objects.shells.now) c.loop-a.a (map objects_of c.loop-a.pairs.items) (map objects_of c.append_row.new.pairs.items) c.in_ok-append_row.ensures c.loop-a.invariant

pub append_row-requires : goal.append_row-requires
append_row-requires c = c.loop-a-test.true

pub loop-a-init : goal.loop-a-init
loop-a-init c = ap (map objects_of) c.new-pairs.ensures.items

pub returns-in_err-append_row : goal.returns-in_err-append_row
returns-in_err-append_row c = IfOk-from_err c.from_residual.result _ c.from_residual.ensures.0

pub returns : goal.returns
returns c =
    let objects = c.args.objects.now in
    let end : c.loop-a.a ≡ length objects.shells.now = omega arith in
    c.loop-a.invariant ∙ ap (λ (a : ℕ). filter (keeps_among objects) (flat_map (pairs_from (length objects.shells.now)) (range_with_len 0 a))) end
