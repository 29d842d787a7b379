use Rattle.std.proofs.Common.{ℕ, List, length, ap, subst, ◌∙◌, arith}
use Rattle.std.specs.List.Sorted.{IsPermutation}
use Rattle.std.proofs.lemmas.List.{length-map}
use Rattle.std.proofs.lemmas.Result.{err_from_is_err_and}
use Rattle.cj_case.specs.Problems.{plain_problem}
use Rattle.cj_case.specs.Cells.{PlainCell}
use Rattle.cj_case.specs.Cells.{plain_cell, plain_cells}
use Rattle.cj_cells.proofs.ListingLemmas.{error_is}
use Rattle.cj_candidates.specs.SlotRuns.{candidates_over, roots_over, sought_in}
use Rattle.cj_candidates.specs.SoughtPairs.{is_wanted_candidate}
use Rattle.cj_candidates.proofs.WantedLemmas.{as_many_roots, wanted_by_slot}
use Rattle.cj_candidates.proofs.filtering.search_all.Goals as goal

pub returns-in_err-found-clause-too_many : goal.returns-in_err-found-clause-too_many
returns-in_err-found-clause-too_many g c =
    let ground = c.args.ground.now in
    let case = plain_problem ground.problem.now in
    let p = err_from_is_err_and c.from_residual.result c.from_residual.ensures.1 in
    let all = ap (λ (n : ℕ). length (roots_over case (sought_in ground) 0 n)) ground.counted in
    rw (p.1, p.2) (λ is wanted same.
    let many = c.in_err-found.ensures.too_many (error_is _ _ is) in
    let slots = ap length (wanted_by_slot case (sought_in ground) wanted same) in
    omega (arith, many, all, slots, as_many_roots (is_wanted_candidate wanted case) case))

pub number_roots-requires-clause-few : goal.number_roots-requires-clause-few
number_roots-requires-clause-few g c = omega (arith, c.in_ok-found.ensures.found.few, c.requires)

pub number_roots-requires-clause-ordered : goal.number_roots-requires-clause-ordered
number_roots-requires-clause-ordered g c = c.in_ok-found.ensures.found.ordered

pub returns-clause-roots : goal.returns-clause-roots
returns-clause-roots g c = λ wanted same.
    let ground = c.args.ground.now in
    let case = plain_problem ground.problem.now in
    c.number_roots.ensures.all (is_wanted_candidate wanted case) case
    (subst (λ (rs : List PlainCell). IsPermutation rs (plain_cells c.in_ok-found.found.roots.items))
    (ap (λ (n : ℕ). roots_over case (sought_in ground) 0 n) ground.counted ∙ wanted_by_slot case (sought_in ground) wanted same)
    c.in_ok-found.ensures.found.roots)

pub returns-clause-numbered : goal.returns-clause-numbered
returns-clause-numbered g c = c.number_roots.ensures.numbered

pub returns-clause-few : goal.returns-clause-few
returns-clause-few g c =
    let old = c.in_ok-found.found.roots in
    let new = c.number_roots.new.roots in
    omega (
      arith,
      c.in_ok-found.ensures.found.few,
      ap (λ (cells : List PlainCell). length cells) c.number_roots.ensures.kept,
      length-map old.items plain_cell,
      length-map new.items plain_cell,
      old.ok.0,
      new.ok.0,
    )

pub returns-clause-touching : goal.returns-clause-touching
returns-clause-touching g c = c.in_ok-found.ensures.found.touching ∙ ap (candidates_over (plain_problem c.args.ground.now.problem.now) (sought_in c.args.ground.now) 0) c.args.ground.now.counted
