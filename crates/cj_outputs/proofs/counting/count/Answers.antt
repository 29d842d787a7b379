use Rattle.std.proofs.Common.{◌≡◌, ℕ, filter, length, ap, arith}
use Rattle.cj_case.specs.Pairs.{pairs_of}
use Rattle.cj_case.specs.Primaries.{has_primary}
use Rattle.cj_case.specs.Problems.{plain_problem}
use Rattle.cj_hermite.proofs.TrackLemmas.{objects_are}
use Rattle.cj_outputs.proofs.PrimaryCountLemmas.{kept_concerned}
use Rattle.cj_outputs.proofs.counting.count.Goals as goal

pub overflow_sub-result : goal.overflow_sub-result
overflow_sub-result c =
    let case = plain_problem c.args.problem.now in
    let objects : length c.as_slice.result.now ≡ length case.tracks =
    objects_are c.args.problem.now.tracks c.as_slice.result.now c.as_slice.ensures.value in
    let pairs = ap (λ (n : ℕ). length (filter (has_primary case.primaries) (pairs_of n))) objects in
    omega (arith, kept_concerned case, pairs, c.requires.kept, c.pairs-pairs.ensures)
