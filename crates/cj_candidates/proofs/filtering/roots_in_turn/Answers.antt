use Rattle.std.proofs.Common.{◌≡◌, ℕ, List, length, map, ap, subst, ◌∙◌, arith}
use Rattle.std.specs.List.Sorted.{IsPermutation}
use Rattle.std.proofs.lemmas.Result.{err_from_is_err_and}
use Rattle.cj_track.specs.declared.track.Track.{Track}
use Rattle.cj_track.specs.Tracks.{plain_track}
use Rattle.cj_case.specs.Cells.{PlainCell}
use Rattle.cj_case.specs.Pairs.{pairs_of}
use Rattle.cj_case.specs.Problems.{plain_problem}
use Rattle.cj_hermite.specs.Roots.{roots_by_slot}
use Rattle.cj_bezier.specs.Candidates.{is_candidate}
use Rattle.cj_cells.proofs.ListingLemmas.{error_is, by_slot, same_count}
use Rattle.cj_candidates.specs.SlotRuns.{roots_over}
use Rattle.cj_candidates.proofs.MeasuredLemmas.{case_boxes, case_shells}
use Rattle.cj_candidates.proofs.ListedLemmas.{all_are}
use Rattle.cj_candidates.proofs.filtering.roots_in_turn.Goals as goal

of_same : {found : List PlainCell} (xs ys : List PlainCell) → xs ≡ ys → IsPermutation xs found → IsPermutation ys found
of_same {found = found} xs ys same moved = subst (λ (rs : List PlainCell). IsPermutation rs found) same moved

pub invariant_of-ground : goal.invariant_of-ground
invariant_of-ground c =
    let case = plain_problem c.args.problem.now in
    let tracks = c.as_slice.result.now in
    let found = c.in_ok-measured.measured in
    let all : map plain_track tracks ≡ case.tracks = ap (λ (ts : List Track). map plain_track ts) c.as_slice.ensures.value in
    record {
      in_shells = case_shells case tracks c.slot_count-slots.result found.shells.items found.boxes all c.in_ok-measured.ensures;
      in_boxes = case_boxes case tracks c.slot_count-slots.result found.shells.items found.boxes all c.slot_count-slots.ensures c.in_ok-measured.ensures;
      in_slots = c.in_ok-measured.ensures.slots;
      counted = c.slot_count-slots.ensures;
      are_pairs = all_are (length case.tracks);
    }

pub returns-in_err-roots-clause-too_many : goal.returns-in_err-roots-clause-too_many
returns-in_err-roots-clause-too_many c =
    let case = plain_problem c.args.problem.now in
    let p = err_from_is_err_and c.from_residual-in_err-roots.result c.from_residual-in_err-roots.ensures.1 in
    let all = ap (λ (n : ℕ). length (roots_over case (pairs_of (length case.tracks)) 0 n)) c.slot_count-slots.ensures in
    let slots = ap length (by_slot case) in
    rw (p.1, p.2) (λ is. let many = c.in_err-roots.ensures.too_many (error_is _ _ is) in omega (arith, many, all, slots, same_count case))

pub number_roots-requires-clause-few : goal.number_roots-requires-clause-few
number_roots-requires-clause-few c = omega (arith, c.in_ok-roots.ensures.found.few, c.requires)

pub number_roots-requires-clause-ordered : goal.number_roots-requires-clause-ordered
number_roots-requires-clause-ordered c = c.in_ok-roots.ensures.found.ordered

pub returns-clause-value : goal.returns-clause-value
returns-clause-value c =
    let case = plain_problem c.args.problem.now in
    c.number_roots.ensures.all (is_candidate case) case
    (of_same (roots_over case (pairs_of (length case.tracks)) 0 c.slot_count-slots.result) (roots_by_slot (is_candidate case) case)
    (ap (λ (n : ℕ). roots_over case (pairs_of (length case.tracks)) 0 n) c.slot_count-slots.ensures ∙ by_slot case) c.in_ok-roots.ensures.found.roots)

pub returns-clause-numbered : goal.returns-clause-numbered
returns-clause-numbered c = c.number_roots.ensures.numbered

pub returns-clause-too_many : goal.returns-clause-too_many
returns-clause-too_many c = λ is. absurd cc
