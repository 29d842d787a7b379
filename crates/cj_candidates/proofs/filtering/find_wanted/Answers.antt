use Rattle.std.proofs.Common.{◌∙◌, ◌&&◌, ℕ, ◌<◌, ◌≤◌, Bool, List, All, length, map, refl, sym, ap, subst, arith}
use Rattle.std.proofs.lemmas.List.{length-map}
use Rattle.std.proofs.lemmas.Result.{err_from_is_err_and}
use Rattle.cj_track.specs.Tracks.{plain_track}
use Rattle.cj_case.specs.CaseLimits.{MAX_SIZE}
use Rattle.cj_case.specs.Pairs.{objects_of}
use Rattle.cj_case.specs.Problems.{plain_problem}
use Rattle.cj_case.specs.Slots.{slot_count}
use Rattle.cj_hermite.specs.Roots.{roots_of}
use Rattle.cj_bezier.specs.Candidates.{boxes_in, is_candidate, is_kept, shells_of}
use Rattle.cj_bezier.proofs.FarLemmas.{others_far}
use Rattle.cj_cells.proofs.ListingLemmas.{error_is}
use Rattle.cj_candidates.proofs.ListedLemmas.{tested_are}
use Rattle.cj_candidates.proofs.MeasuredLemmas.{are_measured, case_in_boxes, case_in_shells}
use Rattle.cj_candidates.proofs.ObjectLemmas.{as_many_shells, pairs_within}
use Rattle.cj_candidates.proofs.WantedLemmas.{kept_anyhow, kept_wanted}
use Rattle.cj_candidates.proofs.filtering.find_wanted.Goals as goal

pub invariant_of-objects : goal.invariant_of-objects
invariant_of-objects g c =
    let problem = c.args.problem.now in
    let measured = are_measured problem c.args.measured.now c.requires.measured in
    let count = as_many_shells (plain_problem problem) c.deref.result.now (c.deref.ensures.value ∙ measured.shells) in
    record {
      few = omega (arith, count, problem.few, length-map problem.tracks plain_track);
      sized = omega (arith, count, problem.sized, ap (λ (xs : List ℕ). length xs) c.as_slice.ensures.value, length-map problem.tracks plain_track);
      small = subst (λ (ss : List ℕ). All (λ size. size ≤ MAX_SIZE) ss) (sym c.as_slice.ensures.value) c.as_slice.ensures.within;
      least = problem.least;
      most = problem.most;
    }

pub kept_of-requires : goal.kept_of-requires
kept_of-requires g c =
    let problem = c.args.problem.now in
    let case = plain_problem problem in
    let measured = are_measured problem c.args.measured.now c.requires.measured in
    let shells = as_many_shells case c.deref.result.now (c.deref.ensures.value ∙ measured.shells) in
    subst (λ (n : ℕ). All (λ pair. pair.b < n) c.args.pairs.now) (sym shells)
    (pairs_within c.requires.pairs.0 (length case.tracks) c.args.pairs.now c.requires.pairs.1)

pub invariant_of-ground : goal.invariant_of-ground
invariant_of-ground g c =
    let problem = c.args.problem.now in
    let case = plain_problem problem in
    let measured = are_measured problem c.args.measured.now c.requires.measured in
    let kept = c.in_ok-kept.kept.items in
    record {
      in_shells = measured.shells;
      in_boxes = measured.boxes;
      in_slots = measured.slots ∙ sym c.slot_count.ensures;
      counted = c.slot_count.ensures;
      are_pairs = tested_are (length case.tracks) (λ pair. c.requires.pairs.0 pair && is_kept case pair) (map objects_of c.deref-2.result.now)
          (kept_wanted case (map objects_of c.args.pairs.now) (map objects_of c.deref-2.result.now) c.deref.result.now c.as_slice.result.now c.requires.pairs.0
          (c.deref.ensures.value ∙ measured.shells) c.as_slice.ensures.value (ap (map objects_of) c.deref-2.ensures.value ∙ c.in_ok-kept.ensures) c.requires.pairs.1);
    }

pub returns-clause-roots : goal.returns-clause-roots
returns-clause-roots g c = λ wanted same.
    let problem = c.args.problem.now in
    let case = plain_problem problem in
    let measured = are_measured problem c.args.measured.now c.requires.measured in
    c.in_ok-roots.ensures.roots (λ pair. wanted pair && is_kept case pair)
    (kept_wanted case (map objects_of c.args.pairs.now) (map objects_of c.deref-2.result.now) c.deref.result.now c.as_slice.result.now wanted
    (c.deref.ensures.value ∙ measured.shells) c.as_slice.ensures.value (ap (map objects_of) c.deref-2.ensures.value ∙ c.in_ok-kept.ensures) same)
    ∙ ap (λ (candidate : ℕ → ℕ → ℕ → Bool). roots_of candidate case) (kept_anyhow wanted case)

pub returns-clause-numbered : goal.returns-clause-numbered
returns-clause-numbered g c = c.in_ok-roots.ensures.numbered

pub returns-clause-few : goal.returns-clause-few
returns-clause-few g c = c.in_ok-roots.ensures.few

pub returns-clause-too_many : goal.returns-clause-too_many
returns-clause-too_many g c = λ is. absurd cc

pub returns-in_err-roots-clause-too_many : goal.returns-in_err-roots-clause-too_many
returns-in_err-roots-clause-too_many g c =
    let problem = c.args.problem.now in
    let case = plain_problem problem in
    let measured = are_measured problem c.args.measured.now c.requires.measured in
    let p = err_from_is_err_and c.from_residual-in_err-roots.result c.from_residual-in_err-roots.ensures.1 in
    rw (p.1, p.2) (λ is wanted same.
    subst (λ (candidate : ℕ → ℕ → ℕ → Bool). c.args.limit < length (roots_of candidate case)) (kept_anyhow wanted case)
    (c.in_err-roots.ensures.too_many (error_is _ _ is) (λ pair. wanted pair && is_kept case pair)
    (kept_wanted case (map objects_of c.args.pairs.now) (map objects_of c.deref-2.result.now) c.deref.result.now c.as_slice.result.now wanted
    (c.deref.ensures.value ∙ measured.shells) c.as_slice.ensures.value (ap (map objects_of) c.deref-2.ensures.value ∙ c.in_ok-kept.ensures) same)))

pub returns-in_err-kept-clause-too_many : goal.returns-in_err-kept-clause-too_many
returns-in_err-kept-clause-too_many g c =
    let p = err_from_is_err_and c.from_residual.result c.from_residual.ensures.1 in
    rw (p.1, p.2) (λ is. absurd cc)

pub returns-clause-far : goal.returns-clause-far
unfolding is_candidate
returns-clause-far g c =
    let case = plain_problem c.args.problem.now in
    let tracks = c.args.problem.now.tracks in
    let found = c.args.measured.now in
    let n = slot_count case.first case.last in
    others_far case (shells_of case) (boxes_in case) (case_in_shells case tracks n found.shells.items found.boxes refl c.requires.measured)
    (case_in_boxes case tracks n found.shells.items found.boxes refl refl c.requires.measured)
