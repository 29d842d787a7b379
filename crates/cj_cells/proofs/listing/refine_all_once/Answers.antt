use Rattle.std.proofs.Common.{◌≡◌, ◌+◌, ◌<◌, ◌++◌, ℕ, List, length, take, drop, vec_len, All, sym, ap, subst, ◌∙◌, arith}
use Rattle.std.proofs.lemmas.Result.{IfOk-from_err, err_from_is_err_and}
use Rattle.std.proofs.lemmas.List.{length-map, take_all}
use Rattle.cj_case.specs.declared.cell.Cell.{Cell}
use Rattle.cj_case.specs.Leaves.{PlainLeaf, plain_leaf, plain_leaves}
use Rattle.cj_case.specs.Problems.{plain_problem}
use Rattle.cj_hermite.specs.Roots.{KeepPieces}
use Rattle.cj_case.specs.Cells.{plain_cell, plain_cells}
use Rattle.cj_cells.specs.Cells.{added_leaves}
use Rattle.cj_cells.specs.Lists.{looks_of_roots}
use Rattle.cj_bezier.specs.RootLeaves.{leaves_of_root, leaves_of_roots, Describe}
use Rattle.cj_cells.proofs.SlotRootLemmas.{count_of}
use Rattle.cj_cells.proofs.ListingLemmas.{error_is, leaves_more, leaves_of_cells, root_more, roots_apart, described_more, looks_more, looks_within}
use Rattle.cj_cells.proofs.WalkLemmas.{no_refusal}
use Rattle.cj_cells.proofs.listing.refine_all_once.Goals as goal

pub loop-root-init : goal.loop-root-init
unfolding leaves_of_roots
loop-root-init g c = record {
  room = omega (arith, c.new-leaves.ensures.len);
  found = ap plain_leaves c.new-leaves.ensures.items;
  leaves = λ k d lt. absurd (omega arith);
  no_fewer = omega arith;
  steps = omega arith;
}

pub returns-in_err-refine_once-clause-too_many : goal.returns-in_err-refine_once-clause-too_many
returns-in_err-refine_once-clause-too_many g c =
    let i = c.loop-root.invariant in
    let p = err_from_is_err_and c.from_residual.result c.from_residual.ensures.1 in
    let case = plain_problem c.args.problem.now in
    let roots = c.args.roots.now in
    let at = c.loop-root.root-index in
    let lt : at < length roots = omega arith in
    let count = count_of (leaves_of_cells case (take at roots)) (leaves_of_root case (plain_cell c.root-item.result)) (leaves_of_cells case (drop (at + 1) roots)) (leaves_of_cells case roots)
    (roots_apart case at roots c.root-item.result lt c.root-item.is) in
    let found = ap length i.found in
    rw (p.1, p.2) (λ is. let many = c.in_err-refine_once.ensures.too_many (error_is _ _ is) in omega (arith, many, count, found, length-map c.loop-root.leaves.items plain_leaf, c.loop-root.leaves.ok.0))

pub loop-root-preserved : goal.loop-root-preserved
loop-root-preserved g c =
    let i = c.loop-root.invariant in
    let case = plain_problem c.args.problem.now in
    let roots = c.args.roots.now in
    let at = c.loop-root.root-index in
    let lt : at < length roots = omega arith in
    let old = c.loop-root.leaves.items in
    let new = c.refine_once.new.leaves.items in
    let n : vec_len c.loop-root.leaves ≡ length old = omega (arith, c.loop-root.leaves.ok.0) in
    let kept = subst (λ (k : ℕ). take k new ≡ old) n c.in_ok-refine_once.ensures.kept in
    record {
      room = c.in_ok-refine_once.ensures.within;
      found = leaves_more old new kept ∙ ap (λ (ss : List PlainLeaf). ss ++ added_leaves old new) i.found
          ∙ ap (λ (ss : List PlainLeaf). leaves_of_cells case (take at roots) ++ ss) c.in_ok-refine_once.ensures.ok
          ∙ sym (root_more case at roots c.root-item.result lt c.root-item.is);
      leaves = described_more (λ root. Describe case root (leaves_of_root case root)) at roots c.root-item.result lt c.root-item.is i.leaves c.in_ok-refine_once.ensures.leaves;
      no_fewer = omega (arith, i.no_fewer, c.refine_once.ensures.no_fewer);
      steps = let more = looks_more case at roots c.root-item.result lt c.root-item.is in omega (arith, more, i.steps, c.in_ok-refine_once.ensures.steps);
    }

pub returns-clause-leaves : goal.returns-clause-leaves
returns-clause-leaves g c =
    let i = c.loop-root.invariant in
    let case = plain_problem c.args.problem.now in
    subst (λ (cells : List Cell). All (λ root. Describe case root (leaves_of_root case root)) (plain_cells cells)) (take_all c.loop-root.root-index c.args.roots.now (omega arith)) i.leaves

pub refine_once-requires : goal.refine_once-requires
refine_once-requires g c =
    let case = plain_problem c.args.problem.now in
    let keep = c.requires c.loop-root.root-index c.root-item.result (omega arith) in
    record {
      pieces = subst (λ (r : Cell). KeepPieces case r.pair.a r.pair.b r.first.micros r.last.micros) (sym c.root-item.is) keep;
      room = c.loop-root.invariant.room;
    }

pub returns-in_err-refine_once-clause-value : goal.returns-in_err-refine_once-clause-value
returns-in_err-refine_once-clause-value g c = IfOk-from_err c.from_residual.result _ c.from_residual.ensures.0

pub returns-in_err-refine_once-clause-within : goal.returns-in_err-refine_once-clause-within
returns-in_err-refine_once-clause-within g c = IfOk-from_err c.from_residual.result _ c.from_residual.ensures.0

pub returns-in_err-refine_once-clause-leaves : goal.returns-in_err-refine_once-clause-leaves
returns-in_err-refine_once-clause-leaves g c = IfOk-from_err c.from_residual.result _ c.from_residual.ensures.0

pub returns-clause-value : goal.returns-clause-value
returns-clause-value g c =
    c.loop-root.invariant.found ∙ ap (leaves_of_cells (plain_problem c.args.problem.now)) (take_all c.loop-root.root-index c.args.roots.now (omega arith))

pub returns-clause-within : goal.returns-clause-within
returns-clause-within g c = c.loop-root.invariant.room

pub returns-clause-too_many : goal.returns-clause-too_many
returns-clause-too_many g c is = absurd (no_refusal _ _ is)

pub returns-in_err-refine_once-clause-steps : goal.returns-in_err-refine_once-clause-steps
returns-in_err-refine_once-clause-steps g c = IfOk-from_err c.from_residual.result _ c.from_residual.ensures.0

pub returns-in_err-refine_once-clause-no_fewer : goal.returns-in_err-refine_once-clause-no_fewer
returns-in_err-refine_once-clause-no_fewer g c = omega (arith, c.loop-root.invariant.no_fewer, c.refine_once.ensures.no_fewer)

pub returns-in_err-refine_once-clause-few_steps : goal.returns-in_err-refine_once-clause-few_steps
returns-in_err-refine_once-clause-few_steps g c =
    let i = c.loop-root.invariant in
    let case = plain_problem c.args.problem.now in
    let roots = c.args.roots.now in
    let at = c.loop-root.root-index in
    let lt : at < length roots = omega arith in
    let more = looks_more case at roots c.root-item.result lt c.root-item.is in
    let within = looks_within case (at + 1) roots in
    omega (arith, more, within, i.steps, c.refine_once.ensures.few_steps)

pub returns-clause-no_fewer : goal.returns-clause-no_fewer
returns-clause-no_fewer g c = c.loop-root.invariant.no_fewer

pub returns-clause-steps : goal.returns-clause-steps
returns-clause-steps g c =
    c.loop-root.invariant.steps
    ∙ ap (λ (cells : List Cell). c.args.steps.now + looks_of_roots (plain_problem c.args.problem.now) (plain_cells cells)) (take_all c.loop-root.root-index c.args.roots.now (omega arith))

pub returns-clause-few_steps : goal.returns-clause-few_steps
returns-clause-few_steps g c = let all = returns-clause-steps g c in omega (arith, all)
