use Rattle.std.proofs.Common.{◌≡◌, ◌++◌, length, sym, ap, ◌∙◌, arith}
use Rattle.std.proofs.lemmas.Result.{IfOk-from_err, err_from_is_err_and}
use Rattle.std.proofs.lemmas.List.{length-map}
use Rattle.cj_case.specs.Leaves.{plain_leaf, plain_leaves}
use Rattle.cj_case.specs.Problems.{plain_problem}
use Rattle.cj_bezier.specs.Candidates.{is_candidate}
use Rattle.cj_cells.proofs.ListingLemmas.{error_is}
use Rattle.cj_again.specs.PairLeaves.{leaves_of_object}
use Rattle.cj_track.specs.Tracks.{plain_track}
use Rattle.cj_again.proofs.PairLeafLemmas.{list_by_objects, row_of_list, rows_to, rows_to_more}
use Rattle.cj_again.proofs.carrying.all_rows.Goals as goal

pub loop-a-init : goal.loop-a-init
loop-a-init c = record {
  value = ap plain_leaves c.new-leaves.ensures.items;
  room = omega (arith, c.new-leaves.ensures.len);
}

pub loop-a-preserved : goal.loop-a-preserved
loop-a-preserved c =
    let new = plain_problem c.args.sources.now.matching.now.new.now in
    let a = c.loop-a.a in
    record {
      value = c.in_ok-append_row.ensures.ok ∙ ap (λ ss. ss ++ leaves_of_object (is_candidate new) new a) c.loop-a.invariant.value ∙ sym (rows_to_more (is_candidate new) new a);
      room = c.in_ok-append_row.ensures.within;
    }

pub returns-in_err-append_row-clause-value : goal.returns-in_err-append_row-clause-value
returns-in_err-append_row-clause-value c = IfOk-from_err c.from_residual.result _ c.from_residual.ensures.0

pub returns-in_err-append_row-clause-within : goal.returns-in_err-append_row-clause-within
returns-in_err-append_row-clause-within c = IfOk-from_err c.from_residual.result _ c.from_residual.ensures.0

pub returns-in_err-append_row-clause-too_many : goal.returns-in_err-append_row-clause-too_many
returns-in_err-append_row-clause-too_many c =
    let p = err_from_is_err_and c.from_residual.result c.from_residual.ensures.1 in
    let problem = c.args.sources.now.matching.now.new.now in
    let new = plain_problem problem in
    let whole = row_of_list (is_candidate new) new c.loop-a.a (omega (arith, length-map problem.tracks plain_track)) in
    let so_far = ap length c.loop-a.invariant.value in
    rw (p.1, p.2) (λ is.
    let many = c.in_err-append_row.ensures.too_many (error_is _ _ is) in
    omega (arith, many, whole, so_far, length-map c.loop-a.leaves.items plain_leaf, c.loop-a.leaves.ok.0))

pub returns-clause-value : goal.returns-clause-value
returns-clause-value c =
    let problem = c.args.sources.now.matching.now.new.now in
    let new = plain_problem problem in
    let end : c.loop-a.a ≡ length new.tracks = omega (arith, length-map problem.tracks plain_track) in
    c.loop-a.invariant.value ∙ ap (rows_to (is_candidate new) new) end ∙ sym (list_by_objects (is_candidate new) new)

pub returns-clause-within : goal.returns-clause-within
returns-clause-within c = c.loop-a.invariant.room

pub returns-clause-too_many : goal.returns-clause-too_many
returns-clause-too_many c is = absurd cc
