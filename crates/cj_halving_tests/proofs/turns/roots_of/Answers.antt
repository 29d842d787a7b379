use Rattle.std.proofs.Common.{◌≡◌, List, length, drop, vec_len, sym, ap, subst, ◌∙◌, arith}
use Rattle.std.specs.List.{range_with_len}
use Rattle.std.specs.List.Sorted.{IsPermutation}
use Rattle.std.proofs.lemmas.List.{length-map}
use Rattle.std.proofs.lemmas.List.Sorted.{IsPermutation-refl, length_permutation}
use Rattle.cj_track.specs.Tracks.{plain_track}
use Rattle.cj_case.specs.Problems.{plain_problem}
use Rattle.cj_hermite.specs.Roots.{roots_by_slot}
use Rattle.cj_case.specs.declared.cell.Cell.{Cell}
use Rattle.cj_case.specs.Cells.{plain_cell, plain_cells}
use Rattle.cj_pool.proofs.RootListLemmas.{are_roots}
use Rattle.cj_halving_tests.proofs.OneSlotLemmas.{first_slot, one_slot}
use Rattle.cj_halving_tests.proofs.turns.roots_of.Goals as goal

pub returns-clause-roots : goal.returns-clause-roots
returns-clause-roots c =
    let case = plain_problem c.args.problem.now in
    let found = c.roots_of_slot.new.roots.items in
    let new = c.order_roots.new.roots in
    let all = sym (ap (λ (xs : List Cell). plain_cells (drop (length xs) found)) c.new-roots.ensures.items) ∙ c.in_ok-roots_of_slot.ensures.ok in
    let two = length-map c.args.problem.now.tracks plain_track ∙ c.requires.tracks in
    let long : vec_len new ≡ length new.items = omega (arith, new.ok.0) in
    let by_slot = roots_by_slot first_slot case in
    let came = subst (IsPermutation by_slot) (sym (all ∙ sym (one_slot case 1 two c.requires.slots))) (IsPermutation-refl by_slot) in
    are_roots first_slot case new.items (c.order_roots.ensures.all first_slot case came) (c.order_roots.ensures.numbered ∙ ap (range_with_len 0) long)

pub returns-clause-few : goal.returns-clause-few
returns-clause-few c =
    let old = c.roots_of_slot.new.roots in
    let new = c.order_roots.new.roots.items in
    omega (arith, length_permutation (plain_cells old.items) (plain_cells new) c.order_roots.ensures.permutation, length-map old.items plain_cell, length-map new plain_cell, old.ok.0, c.in_ok-roots_of_slot.ensures.within)
