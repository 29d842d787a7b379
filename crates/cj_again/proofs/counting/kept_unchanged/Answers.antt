use Rattle.std.proofs.Common.{◌≡◌, ◌≤◌, ℕ, List, All, filter, length, sym, ap, subst, ◌∙◌, arith}
use Rattle.std.proofs.lemmas.List.{length-map}
use Rattle.cj_track.specs.Tracks.{plain_track}
use Rattle.std.specs.List.{flat_map, range_with_len}
use Rattle.cj_case.specs.CaseLimits.{MAX_SIZE}
use Rattle.cj_case.proofs.PairLemmas.{pairs_from}
use Rattle.cj_case.specs.Problems.{plain_problem}
use Rattle.cj_sieve.proofs.KeptLemmas.{rows_counted}
use Rattle.cj_bezier.specs.Candidates.{is_kept_unchanged}
use Rattle.cj_again.proofs.ChangedLemmas.{shells_count}
use Rattle.cj_again.proofs.counting.kept_unchanged.Goals as goal

pub overflow_cast-a-end : goal.overflow_cast-a-end
overflow_cast-a-end c =
    let problem = c.args.matching.now.new.now in
    let count = shells_count (plain_problem problem) c.args.shells.now c.requires in
    omega (arith, count, problem.few, length-map problem.tracks plain_track)

pub invariant_of-objects : goal.invariant_of-objects
invariant_of-objects c =
    let problem = c.args.matching.now.new.now in
    let count = shells_count (plain_problem problem) c.args.shells.now c.requires in
    record {
      few = omega (arith, count, problem.few, length-map problem.tracks plain_track);
      sized = omega (arith, count, problem.sized, ap (λ (xs : List ℕ). length xs) c.as_slice.ensures.value, length-map problem.tracks plain_track);
      small = subst (λ (ss : List ℕ). All (λ size. size ≤ MAX_SIZE) ss) (sym c.as_slice.ensures.value) c.as_slice.ensures.within;
      least = problem.least;
      most = problem.most;
    }

pub loop-a-preserved : goal.loop-a-preserved
loop-a-preserved c =
    let old = plain_problem c.args.matching.now.old.now in
    let new = plain_problem c.args.matching.now.new.now in
    let i = c.loop-a.invariant in
    record {
      counted = rows_counted (is_kept_unchanged old new) (length new.tracks) c.loop-a.a c.loop-a.count c.count_row-count.result i.counted c.count_row-count.ensures.value;
      few = omega (arith, i.few, c.count_row-count.ensures.few);
    }

pub returns : goal.returns
returns c =
    let problem = c.args.matching.now.new.now in
    let old = plain_problem c.args.matching.now.old.now in
    let new = plain_problem problem in
    let count = shells_count new c.args.shells.now c.requires in
    let all = length-map problem.tracks plain_track in
    let end : c.loop-a.a ≡ length problem.tracks = omega (arith, count, all) in
    c.loop-a.invariant.counted ∙ (λ i. length (filter (is_kept_unchanged old new) (flat_map (pairs_from (all i)) (range_with_len 0 (end i)))))
