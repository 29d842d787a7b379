use Rattle.std.proofs.Common.{◌<◌, List, ℕ, length, ap, subst, sym, ◌∙◌, arith}
use Rattle.std.specs.Prelude.{All}
use Rattle.std.specs.List.{list_all}
use Rattle.std.proofs.lemmas.List.{length-map}
use Rattle.std.proofs.lemmas.Result.{err_from_is_err_and}
use Rattle.cj_track.specs.Tracks.{plain_track}
use Rattle.cj_case.specs.Problems.{plain_problem}
use Rattle.cj_candidates.specs.declared.slot_run.ThreadRun.{ThreadRun}
use Rattle.cj_candidates.specs.SlotRuns.{AreFoundIn, roots_at, roots_listed, sought_in}
use Rattle.cj_candidates.proofs.ListedLemmas.{are_few}
use Rattle.cj_candidates.proofs.SlotRunLemmas.{all_found, below}
use Rattle.cj_candidates.proofs.slots_searched.search_slots.Goals as goal

pub search_together-requires-clause-exist : goal.search_together-requires-clause-exist
search_together-requires-clause-exist g c = λ _ _.
    subst (All (λ slot. slot < c.args.ground.now.slots)) (sym (c.deref.ensures.value ∙ c.in_ok-slots.ensures))
    (below c.args.from c.args.count c.args.ground.now.slots c.requires.within)

pub returns : goal.returns
returns g c =
    let problem = c.args.ground.now.problem.now in
    let case = plain_problem problem in
    let objects = problem.few in
    let runs = c.in_ok-runs.runs.items in
    let run = c.in_ok-merged.field-0 in
    let told = c.in_ok-merged.ensures in
    let size = λ (rs : List ThreadRun). length (roots_listed rs) in
    record {
      too_many = λ is. absurd cc;
      found = all_found case (sought_in c.args.ground.now) c.args.from c.args.count c.args.limit runs run (are_few (length case.tracks) (sought_in c.args.ground.now) c.args.ground.now.are_pairs)
          (omega (arith, objects, length-map problem.tracks plain_track)) (omega (arith, c.ranges.count.fits))
          (subst (λ (slots : List ℕ). AreFoundIn case (sought_in c.args.ground.now) slots runs) (c.deref.ensures.value ∙ c.in_ok-slots.ensures) c.in_ok-runs.ensures)
          (sym (ap (list_all (λ (r : ThreadRun). r.whole)) c.deref-3.ensures.value) ∙ sym c.are_whole.ensures ∙ c.if-not-are_whole.false)
          (omega (arith, c.if-count_of-limit.false, c.count_of.ensures, ap size c.deref-2.ensures.value, c.requires.limit)) told.roots run.roots.ok.0 told.touching told.ordered;
    }

pub returns-then-count_of-limit : goal.returns-then-count_of-limit
returns-then-count_of-limit g c =
    let size = λ (rs : List ThreadRun). length (roots_listed rs) in
    let few = c.in_ok-runs.ensures.few in
    let case = plain_problem c.args.ground.now.problem.now in
    let roots = ap (λ (slots : List ℕ). length (roots_at case (sought_in c.args.ground.now) slots)) (c.deref.ensures.value ∙ c.in_ok-slots.ensures) in
    record {
      too_many = λ is. omega (arith, c.if-count_of-limit.true, c.count_of.ensures, ap size c.deref-2.ensures.value, few, roots);
      found = tt;
    }

pub returns-in_err-slots : goal.returns-in_err-slots
returns-in_err-slots g c =
    let p = err_from_is_err_and c.from_residual.result c.from_residual.ensures.1 in
    rw (p.1, p.2) (record { too_many = λ is. absurd cc; found = tt })
