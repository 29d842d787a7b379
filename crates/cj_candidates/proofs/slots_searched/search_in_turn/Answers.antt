use Rattle.std.proofs.Common.{◌≡◌, ◌+◌, ◌-◌, ◌<◌, ◌++◌, ℕ, List, length, take, map, vec_len, All, sym, ap, subst, ◌∙◌, arith, rules}
use Rattle.std.specs.List.Sorted.{IsPermutation}
use Rattle.std.proofs.lemmas.Fn.{always_returns_same}
use Rattle.std.proofs.lemmas.Result.{err_from_is_err_and}
use Rattle.std.proofs.lemmas.List.Sorted.{IsPermutation-map}
use Rattle.std.proofs.lemmas.List.{length-map}
use Rattle.cj_track.specs.Tracks.{plain_track}
use Rattle.cj_case.specs.declared.pair.Pair.{Pair}
use Rattle.cj_case.specs.Pairs.{objects_of}
use Rattle.cj_case.specs.Problems.{plain_problem}
use Rattle.cj_case.specs.Cells.{PlainCell}
use Rattle.cj_hermite.specs.Roots.{roots_in_slot}
use Rattle.cj_case.specs.Cells.{plain_cell, plain_cells}
use Rattle.cj_bezier.specs.Candidates.{is_candidate}
use Rattle.cj_cells.specs.Cells.{added_roots}
use Rattle.cj_cells.proofs.ListingLemmas.{error_is, cells_more}
use Rattle.cj_cells.proofs.OrderLemmas.{sorted_up_to}
use Rattle.cj_candidates.specs.SlotRuns.{roots_over, candidates_over, sought_in}
use Rattle.cj_candidates.specs.SoughtPairs.{candidates_of}
use Rattle.cj_candidates.proofs.CountLemmas.{candidates_few}
use Rattle.cj_candidates.proofs.ListedLemmas.{are_existing, are_few}
use Rattle.cj_candidates.proofs.ObjectLemmas.{passing_exist}
use Rattle.cj_candidates.proofs.SlotRunLemmas.{slots_more, counts_more, roots_upto}
use Rattle.cj_candidates.proofs.slots_searched.search_in_turn.Goals as goal

pub roots_of_slot-requires-clause-exist : goal.roots_of_slot-requires-clause-exist
roots_of_slot-requires-clause-exist g c =
    let problem = c.args.ground.now.problem.now in
    let case = plain_problem problem in
    let within = passing_exist (λ pair. is_candidate case pair.0 pair.1 c.loop-slot.slot) (length case.tracks) (sought_in c.args.ground.now) c.in_ok-pairs.pairs.items (are_existing (length case.tracks) (sought_in c.args.ground.now) c.args.ground.now.are_pairs) c.in_ok-pairs.ensures in
    subst (λ (ps : List Pair). All (λ pair. pair.b < length problem.tracks) ps) (sym c.deref.ensures.value)
    (subst (λ (n : ℕ). All (λ pair. pair.b < n) c.in_ok-pairs.pairs.items) (length-map problem.tracks plain_track) within)

pub returns-in_err-roots_of_slot : goal.returns-in_err-roots_of_slot
returns-in_err-roots_of_slot g c =
    let i = c.loop-slot.invariant in
    let p = err_from_is_err_and c.from_residual-in_err-roots_of_slot.result c.from_residual-in_err-roots_of_slot.ensures.1 in
    let case = plain_problem c.args.ground.now.problem.now in
    let slot = c.loop-slot.slot in
    let pairs : map objects_of c.deref.result.now ≡ candidates_of case (sought_in c.args.ground.now) slot = ap (map objects_of) c.deref.ensures.value ∙ c.in_ok-pairs.ensures in
    let here : length (roots_in_slot case slot (map objects_of c.deref.result.now)) ≡ length (roots_in_slot case slot (candidates_of case (sought_in c.args.ground.now) slot)) =
    ap (λ (ps : List (ℕ × ℕ)). length (roots_in_slot case slot ps)) pairs in
    let count = roots_upto case (sought_in c.args.ground.now) c.args.from slot c.args.count (omega arith) (omega arith) in
    let found = ap (λ (rs : List PlainCell). length rs) i.found in
    rw (p.1, p.2) (record {
      too_many = λ is. let many = c.in_err-roots_of_slot.ensures.too_many (error_is _ _ is) in omega (arith, many, count, found, here, length-map c.loop-slot.roots.items plain_cell, c.loop-slot.roots.ok.0);
      found = tt;
    })

pub loop-slot-preserved : goal.loop-slot-preserved
loop-slot-preserved g c =
    let i = c.loop-slot.invariant in
    let problem = c.args.ground.now.problem.now in
    let case = plain_problem problem in
    let from = c.args.from in
    let slot = c.loop-slot.slot in
    let pairs : map objects_of c.deref.result.now ≡ candidates_of case (sought_in c.args.ground.now) slot = ap (map objects_of) c.deref.ensures.value ∙ c.in_ok-pairs.ensures in
    let old = c.loop-slot.roots.items in
    let new = c.roots_of_slot.new.roots.items in
    let n : vec_len c.loop-slot.roots ≡ length old = omega (arith, c.loop-slot.roots.ok.0) in
    let kept = subst (λ (k : ℕ). take k new ≡ old) n c.in_ok-roots_of_slot.ensures.kept in
    let size : c.len.result ≡ length (candidates_of case (sought_in c.args.ground.now) slot) =
    c.len.ensures ∙ omega (arith, c.in_ok-pairs.pairs.ok.0) ∙ sym (length-map c.in_ok-pairs.pairs.items objects_of) ∙ ap (λ (ps : List (ℕ × ℕ)). length ps) c.in_ok-pairs.ensures in
    let few = problem.few in
    record {
      room = c.in_ok-roots_of_slot.ensures.within;
      found = cells_more old new kept ∙ ap (λ (rs : List PlainCell). rs ++ added_roots old new) i.found
          ∙ ap (λ (rs : List PlainCell). roots_over case (sought_in c.args.ground.now) from (slot - from) ++ rs) (c.in_ok-roots_of_slot.ensures.ok ∙ ap (roots_in_slot case slot) pairs)
          ∙ sym (slots_more case (sought_in c.args.ground.now) from slot (omega arith));
      counted = ap (λ k. k + c.len.result) i.counted ∙ ap (λ k. candidates_over case (sought_in c.args.ground.now) from (slot - from) + k) size ∙ sym (counts_more case (sought_in c.args.ground.now) from slot (omega arith));
      small = omega (arith, i.small, size, candidates_few case (sought_in c.args.ground.now) slot (are_few (length case.tracks) (sought_in c.args.ground.now) c.args.ground.now.are_pairs) (omega (arith, length-map problem.tracks plain_track)));
    }

pub returns : goal.returns
returns g c =
    let l = c.loop-slot in
    let i = l.invariant in
    let case = plain_problem c.args.ground.now.problem.now in
    let from = c.args.from in
    let new = c.sort_by_key.new.self in
    let all : l.slot - from ≡ c.args.count = omega arith in
    let moved = IsPermutation-map plain_cell l.roots.items new.items c.in_ok-sort_by_key.ensures.permutation in
    record {
      too_many = λ is. absurd cc;
      found = record {
        roots = subst (λ (rs : List PlainCell). IsPermutation rs (plain_cells new.items)) (i.found ∙ ap (roots_over case (sought_in c.args.ground.now) from) all) moved;
        ordered = sorted_up_to new.items (c.in_ok-sort_by_key.ensures.sorted (λ cell. (cell.pair, cell.first)) (always_returns_same _ _ _ (λ a r q k. search rules)));
        few = omega (arith, i.room, c.in_ok-sort_by_key.ensures.len);
        touching = i.counted ∙ ap (candidates_over case (sought_in c.args.ground.now) from) all;
      };
    }

pub returns-in_err-hints : goal.returns-in_err-hints
returns-in_err-hints g c =
    let p = err_from_is_err_and c.from_residual.result c.from_residual.ensures.1 in
    rw (p.1, p.2) (record { too_many = λ is. absurd cc; found = tt })

pub returns-in_err-pairs : goal.returns-in_err-pairs
returns-in_err-pairs g c =
    let p = err_from_is_err_and c.from_residual-in_err-pairs.result c.from_residual-in_err-pairs.ensures.1 in
    rw (p.1, p.2) (record { too_many = λ is. absurd cc; found = tt })

pub returns-in_err-sort_by_key : goal.returns-in_err-sort_by_key
returns-in_err-sort_by_key g c =
    let p = err_from_is_err_and c.from_residual-in_err-sort_by_key.result c.from_residual-in_err-sort_by_key.ensures.1 in
    rw (p.1, p.2) (record { too_many = λ is. absurd cc; found = tt })
