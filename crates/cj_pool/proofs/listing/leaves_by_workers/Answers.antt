use Rattle.std.proofs.Common.{◌≡◌, ◌+◌, length, Result, Ok, Err, Vec, Global, vec_len, sym, ap, ◌∙◌, arith}
use Rattle.std.specs.Prelude.{IfOk}
use Rattle.std.specs.List.{range_with_len}
use Rattle.std.proofs.lemmas.List.{length-map}
use Rattle.std.proofs.lemmas.Result.{on_ok_weaker}
use Rattle.cj_case.specs.PlainProblems.{PlainProblem}
use Rattle.cj_case.specs.Problems.{plain_problem}
use Rattle.cj_hermite.specs.Roots.{roots_of}
use Rattle.cj_case.specs.declared.leaf.Leaf.{Leaf}
use Rattle.cj_case.specs.Cells.{plain_cell, plain_cells}
use Rattle.cj_case.specs.Leaves.{plain_leaf, plain_leaves}
use Rattle.cj_bezier.specs.Candidates.{is_candidate}
use Rattle.cj_bezier.specs.RootLeaves.{leaves_of_roots}
use Rattle.cj_cells.specs.declared.refine_error.RefineError.{RefineError}
use Rattle.cj_cells.specs.Lists.{list_of, list_candidates, splits_of}
use Rattle.cj_cells.proofs.LeafLemmas.{list_described, list_split}
use Rattle.cj_pool.proofs.RootListLemmas.{are_roots}
use Rattle.cj_pool.proofs.listing.leaves_by_workers.Goals as goal

pub leaves_of_list-requires-clause-roots : goal.leaves_of_list-requires-clause-roots
leaves_of_list-requires-clause-roots g c =
    let case = plain_problem c.args.problem.now in
    let long : vec_len c.args.roots ≡ length c.args.roots.items = omega (arith, c.args.roots.ok.0) in
    λ later within. are_roots (is_candidate case) case c.args.roots.items c.requires.found (c.requires.numbered ∙ ap (range_with_len 0) long)

pub returns-clause-value : goal.returns-clause-value
unfolding list_of
returns-clause-value g c =
    let case = plain_problem c.args.problem.now in
    let same : leaves_of_roots case (roots_of (is_candidate case) case) ≡ leaves_of_roots case (plain_cells c.args.roots.items) =
    ap (leaves_of_roots case) (sym c.requires.found) in
    rw same c.leaves_of_list.ensures.value

pub returns-clause-within : goal.returns-clause-within
returns-clause-within g c = c.leaves_of_list.ensures.within

pub returns-clause-too_many : goal.returns-clause-too_many
unfolding list_of
returns-clause-too_many g c =
    let case = plain_problem c.args.problem.now in
    let same : leaves_of_roots case (roots_of (is_candidate case) case) ≡ leaves_of_roots case (plain_cells c.args.roots.items) =
    ap (leaves_of_roots case) (sym c.requires.found) in
    rw same c.leaves_of_list.ensures.too_many

pub returns-clause-sound : goal.returns-clause-sound
returns-clause-sound g c =
    let case = plain_problem c.args.problem.now in
    on_ok_weaker c.leaves_of_list.result (λ leaves. let list = list_described case (plain_cells c.args.roots.items) c.requires.found leaves in list.sound) c.leaves_of_list.ensures.leaves

pub returns-clause-complete : goal.returns-clause-complete
returns-clause-complete g c =
    let case = plain_problem c.args.problem.now in
    on_ok_weaker c.leaves_of_list.result (λ leaves. let list = list_described case (plain_cells c.args.roots.items) c.requires.found leaves in list.complete) c.leaves_of_list.ensures.leaves

pub returns-clause-ordered : goal.returns-clause-ordered
returns-clause-ordered g c =
    let case = plain_problem c.args.problem.now in
    on_ok_weaker c.leaves_of_list.result (λ leaves. let list = list_described case (plain_cells c.args.roots.items) c.requires.found leaves in list.ordered) c.leaves_of_list.ensures.leaves

pub returns-clause-pieces : goal.returns-clause-pieces
returns-clause-pieces g c =
    let case = plain_problem c.args.problem.now in
    on_ok_weaker c.leaves_of_list.result (λ leaves. let list = list_described case (plain_cells c.args.roots.items) c.requires.found leaves in list.pieces) c.leaves_of_list.ensures.leaves

pub returns-clause-splits : goal.returns-clause-splits
unfolding list_of
returns-clause-splits g c = go c.leaves_of_list.result (returns-clause-value g c)
  where
    case : PlainProblem
    case = plain_problem c.args.problem.now

    go : (r : Result (Vec Leaf Global) RefineError) → IfOk r (λ leaves. plain_leaves leaves.items ≡ list_candidates case) → IfOk r (λ leaves. vec_len leaves ≡ vec_len c.args.roots + splits_of case)
    go (Err e) h = tt
    go (Ok leaves) h =
        let found = ap length h in
        let split = list_split case in
        let roots = ap length c.requires.found in
        omega (arith, length-map leaves.items plain_leaf, length-map c.args.roots.items plain_cell, leaves.ok.0, c.args.roots.ok.0)
