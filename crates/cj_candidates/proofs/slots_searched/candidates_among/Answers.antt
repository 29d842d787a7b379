use Rattle.std.proofs.Common.{◌≡◌, ◌∙◌, ◌<◌, ◌≤◌, ℕ, List, Result, Ok, Err, Vec, Global, map, filter, length, All, sym, ap, subst, arith}
use Rattle.std.proofs.lemmas.List.{length-map}
use Rattle.std.specs.Prelude.{IfOk}
use Rattle.std.specs.declared.alloc.AllocError.{AllocError}
use Rattle.cj_case.specs.declared.pair.Pair.{Pair}
use Rattle.cj_case.specs.CaseLimits.{MAX_SIZE}
use Rattle.cj_case.specs.PlainProblems.{PlainProblem}
use Rattle.cj_case.specs.Pairs.{objects_of}
use Rattle.cj_case.specs.Problems.{plain_problem}
use Rattle.cj_track.specs.Tracks.{plain_track}
use Rattle.cj_bezier.specs.Shells.{keeps_between}
use Rattle.cj_bezier.specs.Candidates.{is_touching}
use Rattle.cj_candidates.specs.SlotRuns.{sought_in}
use Rattle.cj_candidates.specs.SoughtPairs.{candidates_of}
use Rattle.cj_candidates.proofs.ListedLemmas.{are_existing}
use Rattle.cj_candidates.proofs.ObjectLemmas.{as_many_shells, candidates_are, passing_exist}
use Rattle.cj_candidates.proofs.slots_searched.candidates_among.Goals as goal

pub invariant_of-objects : goal.invariant_of-objects
invariant_of-objects c =
    let problem = c.args.ground.now.problem.now in
    let count = as_many_shells (plain_problem problem) c.deref.result.now (c.deref.ensures.value ∙ c.args.ground.now.in_shells) in
    record {
      few = omega (arith, count, problem.few, length-map problem.tracks plain_track);
      sized = omega (arith, count, problem.sized, ap (λ (xs : List ℕ). length xs) c.as_slice.ensures.value, length-map problem.tracks plain_track);
      small = subst (λ (ss : List ℕ). All (λ size. size ≤ MAX_SIZE) ss) (sym c.as_slice.ensures.value) c.as_slice.ensures.within;
      least = problem.least;
      most = problem.most;
    }

pub kept_of-requires : goal.kept_of-requires
kept_of-requires c =
    let ground = c.args.ground.now in
    let case = plain_problem ground.problem.now in
    let shells = as_many_shells case c.deref.result.now (c.deref.ensures.value ∙ ground.in_shells) in
    let within = passing_exist (is_touching case c.args.slot) (length case.tracks) (sought_in ground) c.in_ok-touching.touching.items (are_existing (length case.tracks) (sought_in ground) ground.are_pairs) c.in_ok-touching.ensures in
    subst (λ (ps : List Pair). All (λ pair. pair.b < length c.deref.result.now) ps) (sym c.deref-2.ensures.value)
    (subst (λ (n : ℕ). All (λ pair. pair.b < n) c.in_ok-touching.touching.items) (sym shells) within)

pub returns : goal.returns
returns c = go c.kept_of.result c.kept_of.ensures
  where
    case : PlainProblem
    case = plain_problem c.args.ground.now.problem.now

    near : map objects_of c.deref-2.result.now ≡ filter (is_touching case c.args.slot) (sought_in c.args.ground.now)
    near = ap (map objects_of) c.deref-2.ensures.value ∙ c.in_ok-touching.ensures

    go : (r : Result (Vec Pair Global) AllocError) → IfOk r (λ kept. map objects_of kept.items ≡ filter (keeps_between case.primaries case.threshold c.as_slice.result.now c.deref.result.now) (map objects_of c.deref-2.result.now))
        → IfOk r (λ pairs. map objects_of pairs.items ≡ candidates_of case (sought_in c.args.ground.now) c.args.slot)
    go (Err e) h = tt
    go (Ok found) h =
        candidates_are case (sought_in c.args.ground.now) c.args.slot (map objects_of found.items) (map objects_of c.deref-2.result.now) c.deref.result.now c.as_slice.result.now
        (c.deref.ensures.value ∙ c.args.ground.now.in_shells) c.as_slice.ensures.value near h
