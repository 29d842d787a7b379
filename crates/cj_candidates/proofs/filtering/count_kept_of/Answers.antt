use Rattle.std.proofs.Common.{◌≤◌, ℕ, List, All, length, sym, ap, subst, ◌∙◌, arith}
use Rattle.std.proofs.lemmas.List.{length-map}
use Rattle.std.proofs.lemmas.Result.{IfOk-weaker}
use Rattle.cj_track.specs.Tracks.{plain_track}
use Rattle.cj_case.specs.CaseLimits.{MAX_SIZE}
use Rattle.cj_case.specs.Problems.{plain_problem}
use Rattle.cj_candidates.proofs.ObjectLemmas.{as_many_shells, kept_is}
use Rattle.cj_candidates.proofs.filtering.count_kept_of.Goals as goal

pub invariant_of-objects : goal.invariant_of-objects
invariant_of-objects g c =
    let problem = c.args.problem.now in
    let count = as_many_shells (plain_problem problem) c.deref.result.now (c.deref.ensures.value ∙ c.requires.measured.shells) in
    record {
      few = omega (arith, count, problem.few, length-map problem.tracks plain_track);
      sized = omega (arith, count, problem.sized, ap (λ (xs : List ℕ). length xs) c.as_slice.ensures.value, length-map problem.tracks plain_track);
      small = subst (λ (ss : List ℕ). All (λ size. size ≤ MAX_SIZE) ss) (sym c.as_slice.ensures.value) c.as_slice.ensures.within;
      least = problem.least;
      most = problem.most;
    }

pub returns : goal.returns
returns g c =
    let kept = kept_is (plain_problem c.args.problem.now) c.deref.result.now c.as_slice.result.now (c.deref.ensures.value ∙ c.requires.measured.shells) c.as_slice.ensures.value in
    IfOk-weaker c.count_kept.result _ _ (λ count is. is ∙ ap length kept) c.count_kept.ensures.value
