use Rattle.std.proofs.Common.{ap, ◌∙◌, subst}
use Rattle.std.specs.Prelude.{Option, IfSome}
use Rattle.std.proofs.lemmas.List.Elements.{All-pop}
use Rattle.crossbeam_deque.specs.Handles.{worker_view}
use Rattle.cj_case.specs.Problems.{plain_problem}
use Rattle.cj_case.specs.declared.cell.Cell.{Cell}
use Rattle.cj_pool.specs.Passes.{takens, around}
use Rattle.cj_pool.specs.Tree.{InTree}
use Rattle.cj_pool.proofs.PickLemmas.{none_kept, found_came, found_narrow}
use Rattle.cj_pool.proofs.picking.pick.Goals as goal

pub returns-in-Some-clause-cell : goal.returns-in-Some-clause-cell
returns-in-Some-clause-cell g c =
    let P = InTree (plain_problem g.K.Run.problem) g.K.Run.roots in
    subst (λ (r : Option Cell). IfSome r P) c.in-Some.is (All-pop P c.args.kept.now.items c.pop.new.self.items c.pop.result c.pop.ensures.items c.requires.tree).1

pub returns-in-Some-clause-tree : goal.returns-in-Some-clause-tree
returns-in-Some-clause-tree g c =
    let P = InTree (plain_problem g.K.Run.problem) g.K.Run.roots in
    (All-pop P c.args.kept.now.items c.pop.new.self.items c.pop.result c.pop.ensures.items c.requires.tree).0

pub returns-in-None-clause-came : goal.returns-in-None-clause-came
returns-in-None-clause-came g c =
    let kept = c.args.kept.now.items in
    let none = none_kept c.pop.result kept c.pop.new.self.items c.in-None.is c.pop.ensures.items c.pop.ensures.rest in
    let s = c.args.station.now in
    let t = c.find.new.station in
    found_came c.find.result kept c.pop.new.self.items (around (takens s.below.items) (worker_view s.own).taken (takens s.above.items)) (around (takens t.below.items) (worker_view t.own).taken (takens t.above.items))
    none (ap (λ v. v.items) ((c.in-None.ensures {u = tt}).empty)) c.find.ensures.taken

pub returns-in-None-clause-narrow : goal.returns-in-None-clause-narrow
returns-in-None-clause-narrow g c =
    let none = none_kept c.pop.result c.args.kept.now.items c.pop.new.self.items c.in-None.is c.pop.ensures.items c.pop.ensures.rest in
    found_narrow c.find.result (plain_problem g.K.Run.problem) g.K.Run.roots c.pop.new.self.items (ap (λ v. v.items) ((c.in-None.ensures {u = tt}).empty) ∙ none) c.requires.roots c.find.ensures.tree
