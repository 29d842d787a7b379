use Rattle.std.proofs.Common.{◌≤◌, ◌∙◌, ℕ, List, All, length, ap, subst, sym, arith}
use Rattle.std.proofs.lemmas.List.{length-map}
use Rattle.cj_track.specs.Tracks.{plain_track}
use Rattle.cj_case.specs.CaseLimits.{MAX_SIZE}
use Rattle.cj_case.specs.Problems.{plain_problem}
use Rattle.cj_candidates.proofs.ObjectLemmas.{as_many_shells, kept_is}
use Rattle.cj_candidates.proofs.few_primaries.few_kept.Goals as goal

pub kept_pairs-requires-clause-few : goal.kept_pairs-requires-clause-few
kept_pairs-requires-clause-few c =
    let problem = c.args.problem.now in
    omega (arith, as_many_shells (plain_problem problem) c.deref.result.now (c.deref.ensures.value ∙ c.requires.measured.shells), problem.few, length-map problem.tracks plain_track)

pub kept_pairs-requires-clause-sized : goal.kept_pairs-requires-clause-sized
kept_pairs-requires-clause-sized c =
    let problem = c.args.problem.now in
    let count = as_many_shells (plain_problem problem) c.deref.result.now (c.deref.ensures.value ∙ c.requires.measured.shells) in
    omega (arith, count, problem.sized, ap (λ (xs : List ℕ). length xs) c.as_slice.ensures.value, length-map problem.tracks plain_track)

pub kept_pairs-requires-clause-small : goal.kept_pairs-requires-clause-small
kept_pairs-requires-clause-small c = subst (λ (ss : List ℕ). All (λ size. size ≤ MAX_SIZE) ss) (sym c.as_slice.ensures.value) c.as_slice.ensures.within

pub returns : goal.returns
returns c =
    c.in_ok-pairs.ensures.value ∙ kept_is (plain_problem c.args.problem.now) c.deref.result.now c.as_slice.result.now (c.deref.ensures.value ∙ c.requires.measured.shells) c.as_slice.ensures.value
