use Rattle.std.proofs.Common.{◌≡◌, ap, sym, ◌∙◌}
use Rattle.std.specs.Global.{Vec}
use Rattle.std.specs.List.{flat_map}
use Rattle.std.proofs.lemmas.Result.{IfOk-weaker}
use Rattle.cj_case.specs.Problems.{plain_problem}
use Rattle.cj_case.specs.Cells.{plain_cells}
use Rattle.cj_case.specs.declared.leaf.Leaf.{Leaf}
use Rattle.cj_case.specs.Leaves.{plain_leaves}
use Rattle.cj_bezier.specs.RootLeaves.{leaves_of_roots}
use Rattle.cj_bezier.specs.ToldLeaves.{told_leaves}
use Rattle.cj_cert.proofs.ListedLemmas.{near_in_time}
use Rattle.cj_cert.specs.Written.{leaves_in_order}
use Rattle.cj_brief.specs.Telling.{plain_lists}
use Rattle.cj_brief.proofs.TellingLemmas.{list_told, roots_listed}
use Rattle.cj_brief.proofs.telling.told_of_list.Goals as goal

pub told_by_slot-requires : goal.told_by_slot-requires
unfolding leaves_in_order
told_by_slot-requires c =
    let problem = c.args.problem.now in
    let case = plain_problem problem in
    record {
      roots = roots_listed case c.args.roots.now (near_in_time case c.acceptance.ensures.near) problem.least c.requires.roots;
      leaves = c.requires.leaves ∙ ap (leaves_of_roots case) (sym c.requires.roots);
    }

pub returns : goal.returns
returns c =
    let case = plain_problem c.args.problem.now in
    let lists = c.deref.result.now in
    IfOk-weaker c.in_one.result (λ (all : Vec Leaf). all.items ≡ flat_map (λ list. list.items) lists) (λ (all : Vec Leaf). plain_leaves all.items ≡ told_leaves case)
    (λ all is. list_told case (plain_cells c.args.roots.now) lists all.items c.requires.roots (ap plain_lists c.deref.ensures.value ∙ c.in_ok-lists.ensures) is) c.in_one.ensures
