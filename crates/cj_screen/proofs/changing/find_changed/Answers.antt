use Rattle.std.proofs.Common.{◌∙◌, length, map, refl, ap, sym, arith}
use Rattle.std.specs.Prelude.{not}
use Rattle.std.specs.List.{range_with_len}
use Rattle.std.proofs.lemmas.Result.{err_from_is_err_and}
use Rattle.cj_case.specs.Cells.{plain_cells}
use Rattle.cj_case.specs.Pairs.{objects_of}
use Rattle.cj_case.specs.Problems.{plain_problem}
use Rattle.cj_case.specs.Unchanged.{is_unchanged}
use Rattle.cj_bezier.specs.Candidates.{is_candidate_anew}
use Rattle.cj_cells.proofs.ListingLemmas.{error_is}
use Rattle.cj_hermite.specs.Roots.{roots_of}
use Rattle.cj_pool.proofs.RootListLemmas.{are_roots}
use Rattle.cj_screen.proofs.RescreenLemmas.{anew_leaves, anew_roots, anew_wanted, kept_of_both, pairs_of_both}
use Rattle.cj_screen.proofs.changing.find_changed.Goals as goal

pub find_wanted-requires-clause-pairs : goal.find_wanted-requires-clause-pairs
find_wanted-requires-clause-pairs g c _ _ =
    let old = plain_problem c.args.base.now in
    let new = plain_problem c.args.new.now in
    (λ pair. not (is_unchanged old new pair), ap (map objects_of) c.deref-2.ensures.value ∙ pairs_of_both _ _ _ _ _ c.in_ok-matching.ensures.old c.in_ok-matching.ensures.new c.in_ok-pairs.ensures)

pub leaves_of_list-requires-clause-roots : goal.leaves_of_list-requires-clause-roots
leaves_of_list-requires-clause-roots g c _ _ =
    let old = plain_problem c.args.base.now in
    let new = plain_problem c.args.new.now in
    let roots = c.in_ok-roots.roots in
    let found = c.in_ok-roots.ensures.roots (λ pair. not (is_unchanged old new pair)) (ap (map objects_of) c.deref-2.ensures.value ∙ pairs_of_both _ _ _ _ _ c.in_ok-matching.ensures.old c.in_ok-matching.ensures.new c.in_ok-pairs.ensures) ∙ anew_wanted old new in
    are_roots (is_candidate_anew old new) new roots.items found (c.in_ok-roots.ensures.numbered ∙ ap (range_with_len 0) (omega (arith, roots.ok.0)))

pub returns-clause-value : goal.returns-clause-value
returns-clause-value g c =
    let old = plain_problem c.args.base.now in
    let new = plain_problem c.args.new.now in
    let found = c.in_ok-roots.ensures.roots (λ pair. not (is_unchanged old new pair)) (ap (map objects_of) c.deref-2.ensures.value ∙ pairs_of_both _ _ _ _ _ c.in_ok-matching.ensures.old c.in_ok-matching.ensures.new c.in_ok-pairs.ensures) ∙ anew_wanted old new in
    c.in_ok-leaves.ensures.value ∙ anew_leaves old new (plain_cells c.in_ok-roots.roots.items) found

pub returns-clause-within : goal.returns-clause-within
returns-clause-within g c = omega (arith, c.in_ok-leaves.ensures.within, c.in_ok-leaves.leaves.ok.0)

pub returns-clause-kept : goal.returns-clause-kept
returns-clause-kept g c =
    let matching = c.in_ok-matching.matching in
    let both = c.in_ok-matching.ensures in
    kept_of_both matching.old.now c.args.base.now matching.new.now c.args.new.now _ both.old both.new c.kept_unchanged-kept.ensures

pub returns-clause-ticks : goal.returns-clause-ticks
returns-clause-ticks g c = record {
  lists = c.true_lists.ensures (is_candidate_anew (plain_problem c.args.base.now) (plain_problem c.args.new.now));
  far = c.in_ok-roots.ensures.far;
}

pub returns-in_err-leaves-clause-too_many : goal.returns-in_err-leaves-clause-too_many
returns-in_err-leaves-clause-too_many g c =
    let old = plain_problem c.args.base.now in
    let new = plain_problem c.args.new.now in
    let found = c.in_ok-roots.ensures.roots (λ pair. not (is_unchanged old new pair)) (ap (map objects_of) c.deref-2.ensures.value ∙ pairs_of_both _ _ _ _ _ c.in_ok-matching.ensures.old c.in_ok-matching.ensures.new c.in_ok-pairs.ensures) ∙ anew_wanted old new in
    let p = err_from_is_err_and c.from_residual-in_err-leaves.result c.from_residual-in_err-leaves.ensures.1 in
    rw (p.1, p.2, sym (anew_leaves old new (plain_cells c.in_ok-roots.roots.items) found)) (λ is. c.in_err-leaves.ensures.too_many (error_is _ _ is))

pub returns-in_err-roots-clause-too_many : goal.returns-in_err-roots-clause-too_many
returns-in_err-roots-clause-too_many g c =
    let old = plain_problem c.args.base.now in
    let new = plain_problem c.args.new.now in
    let p = err_from_is_err_and c.from_residual-in_err-roots.result c.from_residual-in_err-roots.ensures.1 in
    rw (p.1, p.2) (λ is.
    let many = c.in_err-roots.ensures.too_many (error_is _ _ is) (λ pair. not (is_unchanged old new pair)) (ap (map objects_of) c.deref-2.ensures.value ∙ pairs_of_both _ _ _ _ _ c.in_ok-matching.ensures.old c.in_ok-matching.ensures.new c.in_ok-pairs.ensures) in
    omega (arith, many, ap length (anew_wanted old new), anew_roots old new (roots_of (is_candidate_anew old new) new) refl))

pub returns-in_err-matching-clause-too_many : goal.returns-in_err-matching-clause-too_many
returns-in_err-matching-clause-too_many g c =
    let p = err_from_is_err_and c.from_residual.result c.from_residual.ensures.1 in
    rw (p.1, p.2) (λ is. absurd cc)

pub returns-in_err-measured-clause-too_many : goal.returns-in_err-measured-clause-too_many
returns-in_err-measured-clause-too_many g c =
    let p = err_from_is_err_and c.from_residual-in_err-measured.result c.from_residual-in_err-measured.ensures.1 in
    rw (p.1, p.2) (λ is. absurd cc)

pub returns-in_err-pairs-clause-too_many : goal.returns-in_err-pairs-clause-too_many
returns-in_err-pairs-clause-too_many g c =
    let p = err_from_is_err_and c.from_residual-in_err-pairs.result c.from_residual-in_err-pairs.ensures.1 in
    rw (p.1, p.2) (λ is. absurd cc)
