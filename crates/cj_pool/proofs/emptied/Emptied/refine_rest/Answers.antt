use Rattle.std.proofs.Common.{◌≡◌, ℕ, List, length, take, vec_len, sym, subst, arith}
use Rattle.std.specs.Prelude.{AllPairs}
use Rattle.std.specs.List.Sorted.{IsPermutation}
use Rattle.std.proofs.lemmas.List.Sorted.{IsPermutation-map, All-permutation, length_permutation}
use Rattle.cj_case.specs.Problems.{plain_problem}
use Rattle.cj_case.specs.Cells.{IsRootUpTo}
use Rattle.cj_case.specs.declared.leaf.Leaf.{Leaf}
use Rattle.cj_case.specs.Cells.{plain_cells}
use Rattle.cj_case.specs.Leaves.{PlainLeaf, plain_leaf, plain_leaves}
use Rattle.cj_pool.specs.Hands.{cells_of}
use Rattle.cj_pool.specs.Tree.{IsLeafOf}
use Rattle.cj_pool.proofs.FinishLemmas.{first_found}
use Rattle.std.proofs.lemmas.Result.{err_from_is_err_and}
use Rattle.cj_pool.proofs.emptied.Emptied.refine_rest.Goals as goal

pub merge_from-requires : goal.merge_from-requires
merge_from-requires c =
    let v = c.refine_open.new.leaves in
    let first = c.args.leaves in
    let l : vec_len first ≡ c.len-merged.result = omega (arith, c.len-merged.ensures) in
    let kept = subst (λ (m : ℕ). take m v.items ≡ first.items) l c.refine_open.ensures.kept in
    subst (λ (xs : List Leaf). AllPairs IsRootUpTo (plain_cells (cells_of xs))) (sym kept) c.requires.ordered

pub returns-clause-moved : goal.returns-clause-moved
returns-clause-moved c =
    let v = c.refine_open.new.leaves in
    let sorted = c.merge_from.new.leaves in
    let is = c.in_ok-refine_open.ensures.ok in
    subst (λ (xs : List PlainLeaf). IsPermutation xs (plain_leaves sorted.items)) is (IsPermutation-map plain_leaf v.items sorted.items c.merge_from.ensures.permutation)

pub returns-clause-among : goal.returns-clause-among
returns-clause-among c =
    let v = c.refine_open.new.leaves in
    let first = c.args.leaves in
    let l : vec_len first ≡ length first.items = omega (arith, first.ok.0) in
    let kept = subst (λ (m : ℕ). take m v.items ≡ first.items) l c.refine_open.ensures.kept in
    first_found first.items v.items c.merge_from.new.leaves.items kept c.merge_from.ensures.permutation

pub returns-clause-judged : goal.returns-clause-judged
returns-clause-judged c =
    let v = c.refine_open.new.leaves in
    λ roots are trees closed.
    All-permutation (IsLeafOf (plain_problem c.args.self.now.problem.now) roots) v.items c.merge_from.new.leaves.items c.merge_from.ensures.permutation
    (c.in_ok-refine_open.ensures.judged roots are trees closed)

pub returns-clause-within : goal.returns-clause-within
returns-clause-within c =
    let v = c.refine_open.new.leaves in
    omega (arith, length_permutation v.items c.merge_from.new.leaves.items c.merge_from.ensures.permutation, c.in_ok-refine_open.ensures.within, v.ok.0)

pub returns-clause-too_many : goal.returns-clause-too_many
returns-clause-too_many c = tt

pub returns-in_err-merge_from-clause-moved : goal.returns-in_err-merge_from-clause-moved
returns-in_err-merge_from-clause-moved c = rw (err_from_is_err_and c.from_residual-in_err-merge_from.result c.from_residual-in_err-merge_from.ensures.1).1 tt

pub returns-in_err-merge_from-clause-too_many : goal.returns-in_err-merge_from-clause-too_many
returns-in_err-merge_from-clause-too_many c =
    let p = err_from_is_err_and c.from_residual-in_err-merge_from.result c.from_residual-in_err-merge_from.ensures.1 in
    rw (p.1, p.2) tt

pub returns-in_err-refine_open-clause-moved : goal.returns-in_err-refine_open-clause-moved
returns-in_err-refine_open-clause-moved c = rw (err_from_is_err_and c.from_residual.result c.from_residual.ensures.1).1 tt
