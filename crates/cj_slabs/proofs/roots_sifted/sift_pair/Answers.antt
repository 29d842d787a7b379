use Rattle.std.proofs.Common.{◌<◌, ◌+◌, List, length, sym, subst, ◌∙◌}
use Rattle.cj_case.specs.Cells.{PlainCell, plain_cell}
use Rattle.cj_case.specs.Problems.{plain_problem}
use Rattle.cj_case.specs.declared.problem.Problem.{Problem}
use Rattle.cj_bezier.specs.RootLeaves.{leaves_of_root, leaves_of_roots}
use Rattle.cj_slabs.proofs.SlabLemmas.{one_root_leaves}
use Rattle.cj_slabs.proofs.roots_sifted.sift_pair.Goals as goal

pub returns-in-Some-clause-too_many : goal.returns-in-Some-clause-too_many
returns-in-Some-clause-too_many c is =
    let same = c.whole_root.ensures.same ∙ c.requires.cuts in
    subst (λ (rs : List PlainCell). c.args.limit < c.args.slab.now.counts.leaves + length (leaves_of_roots (plain_problem c.args.problem.now) rs)) (sym c.in-Some.ensures.root)
    (one_root_leaves (plain_problem c.args.problem.now) (plain_cell c.in-Some.root) c.args.limit c.args.slab.now.counts.leaves
    (subst (λ (p : Problem). c.args.limit < c.args.slab.now.counts.leaves + length (leaves_of_root (plain_problem p) (plain_cell c.in-Some.root))) same (c.sift_root.ensures.too_many is)))
