use Rattle.std.proofs.Common.{◌∙◌, ap, sym, arith}
use Rattle.std.proofs.lemmas.List.{length-map}
use Rattle.std.specs.List.{range_with_len}
use Rattle.cj_case.specs.Problems.{plain_problem}
use Rattle.cj_case.specs.Cells.{plain_cell, plain_cells}
use Rattle.cj_bezier.specs.Candidates.{is_candidate_anew}
use Rattle.cj_bezier.specs.RootLeaves.{leaves_of_roots}
use Rattle.cj_cells.specs.Lists.{list_of}
use Rattle.cj_outputs.specs.Outcome.{list_anew}
use Rattle.cj_pool.proofs.RootListLemmas.{are_roots}
use Rattle.cj_screen.proofs.RescreenLemmas.{anew_roots}
use Rattle.cj_screen.proofs.rescreening.leaves_anew.Goals as goal

pub leaves_of_list-requires-clause-roots : goal.leaves_of_list-requires-clause-roots
leaves_of_list-requires-clause-roots g c _ _ =
    let old = plain_problem c.args.matching.now.old.now in
    let new = plain_problem c.args.matching.now.new.now in
    let changed = c.in_ok-changed.changed in
    are_roots (is_candidate_anew old new) new changed.items c.in_ok-changed.ensures.value (c.in_ok-changed.ensures.numbered ∙ ap (range_with_len 0) (omega (arith, changed.ok.0)))

pub leaves_of_list-requires-clause-few : goal.leaves_of_list-requires-clause-few
leaves_of_list-requires-clause-few g c _ _ = omega (arith, c.if-len-wanted.false, c.len.ensures, c.in_ok-changed.changed.ok.0)

pub returns-clause-value : goal.returns-clause-value
unfolding list_anew list_of
returns-clause-value g c = rw (sym (ap (leaves_of_roots (plain_problem c.args.matching.now.new.now)) c.in_ok-changed.ensures.value)) c.leaves_of_list.ensures.value

pub returns-clause-within : goal.returns-clause-within
returns-clause-within g c = c.leaves_of_list.ensures.within

pub returns-clause-too_many : goal.returns-clause-too_many
unfolding list_anew list_of
returns-clause-too_many g c = rw (sym (ap (leaves_of_roots (plain_problem c.args.matching.now.new.now)) c.in_ok-changed.ensures.value)) c.leaves_of_list.ensures.too_many

pub returns-then-len-wanted-clause-too_many : goal.returns-then-len-wanted-clause-too_many
returns-then-len-wanted-clause-too_many g c = λ is.
    let changed = c.in_ok-changed.changed in
    omega (arith, c.if-len-wanted.true, c.len.ensures, changed.ok.0, length-map changed.items plain_cell, anew_roots (plain_problem c.args.matching.now.old.now) (plain_problem c.args.matching.now.new.now) (plain_cells changed.items) c.in_ok-changed.ensures.value)
