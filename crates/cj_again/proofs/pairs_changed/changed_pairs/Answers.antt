use Rattle.std.proofs.Common.{◌≡◌, List, map, filter, length, sym, ap, ◌∙◌, arith}
use Rattle.std.specs.Prelude.{not}
use Rattle.std.specs.List.{flat_map, range_with_len}
use Rattle.std.proofs.lemmas.List.{length-map}
use Rattle.cj_track.specs.Tracks.{plain_track}
use Rattle.cj_case.specs.declared.pair.Pair.{Pair}
use Rattle.cj_case.specs.Pairs.{objects_of}
use Rattle.cj_case.specs.Problems.{plain_problem}
use Rattle.cj_case.specs.Unchanged.{is_unchanged}
use Rattle.cj_case.proofs.PairLemmas.{pairs_from, row_taken}
use Rattle.cj_again.proofs.pairs_changed.changed_pairs.Goals as goal

pub loop-a-init : goal.loop-a-init
loop-a-init c = ap (λ (pairs : List Pair). map objects_of pairs) c.new-pairs.ensures.items

pub loop-a-preserved : goal.loop-a-preserved
loop-a-preserved c =
    let problem = c.args.matching.now.new.now in
    let old = plain_problem c.args.matching.now.old.now in
    let new = plain_problem problem in
    row_taken (λ pair. not (is_unchanged old new pair)) (length problem.tracks) c.loop-a.a (map objects_of c.loop-a.pairs.items) (map objects_of c.append_row.new.pairs.items) c.in_ok-append_row.ensures c.loop-a.invariant

pub returns : goal.returns
returns c =
    let problem = c.args.matching.now.new.now in
    let old = plain_problem c.args.matching.now.old.now in
    let new = plain_problem problem in
    let count = sym (length-map problem.tracks plain_track) in
    let end : c.loop-a.a ≡ length problem.tracks = omega (arith, c.objects-a-end.ensures) in
    c.loop-a.invariant ∙ (λ i. filter (λ pair. not (is_unchanged old new pair)) (flat_map (pairs_from (count i)) (range_with_len 0 ((end ∙ count) i))))
