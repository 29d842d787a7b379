use Rattle.std.proofs.Common.{◌≡◌, ◌++◌, ℕ, List, min, length, take, true, false, sym, ap, subst, ◌∙◌, arith}
use Rattle.std.specs.List.Sorted.{IsPermutation}
use Rattle.std.proofs.lemmas.List.{length-map, take_all}
use Rattle.std.proofs.lemmas.List.Sorted.{IsPermutation-map, length_permutation}
use Rattle.cj_case.specs.Problems.{plain_problem}
use Rattle.cj_case.specs.Cells.{PlainCell}
use Rattle.cj_case.specs.Cells.{plain_cell, plain_cells}
use Rattle.cj_cells.specs.Cells.{added_roots}
use Rattle.cj_cells.proofs.ListingLemmas.{cells_more}
use Rattle.cj_candidates.specs.SlotRuns.{candidates_at, roots_at, sought_in}
use Rattle.cj_candidates.proofs.SlotRunLemmas.{candidates_more, roots_more, roots_within}
use Rattle.cj_candidates.proofs.slots_shared.search_some.Goals as goal

pub search_slot-requires-clause-exists : goal.search_slot-requires-clause-exists
search_slot-requires-clause-exists g c = c.requires.exist c.loop-slot.slot-index 0 c.loop-slot-test.true

pub returns-then-not-branch : goal.returns-then-not-branch
returns-then-not-branch g c =
    let l = c.loop-slot in
    let new = c.search_slot.new.run in
    let upto = roots_within (plain_problem c.args.ground.now.problem.now) (sought_in c.args.ground.now) c.args.slots.now l.slot-index 0 c.loop-slot-test.true in
    let found = ap length l.invariant.found in
    let few = c.in_ok-search_slot.ensures.few in
    let stopped = c.search_slot.ensures.stays ∙ l.invariant.stopped in
    record {
      few = omega (arith, upto, found, few, length-map l.run.roots.items plain_cell, l.run.roots.ok.0, new.roots.ok.0);
      roots = λ whole. let e : true ≡ false = sym whole ∙ stopped in absurd cc;
      touching = λ whole. let e : true ≡ false = sym whole ∙ stopped in absurd cc;
    }

pub loop-slot-preserved : goal.loop-slot-preserved
loop-slot-preserved g c =
    let l = c.loop-slot in
    let i = l.invariant in
    let case = plain_problem c.args.ground.now.problem.now in
    let slots = c.args.slots.now in
    let at = l.slot-index in
    let old = l.run.roots in
    let new = c.search_slot.new.run.roots.items in
    let whole = c.if-not-branch.false in
    let kept = subst (λ (k : ℕ). take k new ≡ old.items) old.ok.0 c.in_ok-search_slot.ensures.kept in
    let candidate = c.in_ok-search_slot.ensures.candidate whole in
    record {
      room = c.in_ok-search_slot.ensures.room whole;
      found = cells_more old.items new kept ∙ ap (λ (rs : List PlainCell). rs ++ added_roots old.items new) i.found
          ∙ ap (λ (rs : List PlainCell). roots_at case (sought_in c.args.ground.now) (take at slots) ++ rs) (c.in_ok-search_slot.ensures.added whole)
          ∙ sym (roots_more case (sought_in c.args.ground.now) slots at 0 c.loop-slot-test.true);
      counted = omega (arith, candidate, i.counted, candidates_more case (sought_in c.args.ground.now) slots at 0 c.loop-slot-test.true);
      stopped = c.search_slot.ensures.stays ∙ i.stopped;
    }

pub returns : goal.returns
returns g c =
    let l = c.loop-slot in
    let i = l.invariant in
    let case = plain_problem c.args.ground.now.problem.now in
    let new = c.sort_by_key.new.self in
    let all = take_all l.slot-index c.args.slots.now c.loop-slot-test.false in
    let sorted = c.in_ok-sort_by_key.ensures.permutation in
    let found = i.found ∙ ap (roots_at case (sought_in c.args.ground.now)) all in
    let long = ap length found in
    record {
      few = omega (arith, long, length_permutation l.run.roots.items new.items sorted, length-map l.run.roots.items plain_cell);
      roots = λ _. subst (λ (rs : List PlainCell). IsPermutation rs (plain_cells new.items)) found (IsPermutation-map plain_cell l.run.roots.items new.items sorted);
      touching = λ _. i.counted ∙ ap (λ (slots : List ℕ). min (candidates_at case (sought_in c.args.ground.now) slots) 18_446_744_073_709_551_615) all;
    }
