use Rattle.std.proofs.Common.{◌≡◌, ◌∙◌, arith}
use Rattle.cj_case.specs.PlainProblems.{PlainProblem}
use Rattle.cj_hermite.specs.Ready.{curve_ready}
use Rattle.cj_bezier.specs.RootLeaves.{is_far_throughout as the_test}
use Rattle.cj_checker.specs.Tiling.{IsOf, root_from}
use Rattle.cj_brief_checker.specs.FarThroughout.{are_far as the_are_far}
use Rattle.cj_brief_checker.proofs.FarLemmas.{far_root}
use Rattle.cj_brief_checker.proofs.far.is_far_throughout.Goals as goal
use Rattle.cj_brief_checker.proofs.far.is_far_throughout.Goals.{Start}

pub are_far-requires : goal.are_far-requires
are_far-requires c =
    let root = c.args.root.now in
    record {
      order = c.requires.some;
      first_over = c.requires.over.one;
      second_over = c.requires.over.other;
      least = root.least;
      most = omega (arith, root.most);
      verdict = c.requires.verdict;
    }

-- what is told of its two interpolants is told of the root
of_root : (c : Start) (case : PlainProblem) → IsOf case c.args.root.now → let root = c.args.root.now in
    the_are_far root.thr (curve_ready root.first) (curve_ready root.second) root.pair.a root.pair.b root.ticks.first.micros root.ticks.last.micros
    ≡ the_test case (root_from root root.ticks.first.micros)
of_root c case of =
    let root = c.args.root.now in
    let first = root.ticks.first.micros in
    far_root case (root_from root first) root.thr (curve_ready root.first) (curve_ready root.second)
    (of.one first (omega arith) c.requires.some) (of.other first (omega arith) c.requires.some) of.threshold

pub returns : goal.returns
returns c case of = c.are_far.ensures c.args.root.now.pair.a c.args.root.now.pair.b ∙ of_root (goal.at.returns c).Start case of
