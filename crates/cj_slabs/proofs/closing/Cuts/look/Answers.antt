use Rattle.std.proofs.Common.{Option}
use Rattle.std.specs.Prelude.{IfSome}
use Rattle.std.proofs.lemmas.List.Elements.{All-set}
use Rattle.cj_case.specs.Problems.{plain_problem}
use Rattle.cj_slabs.specs.Cuts.{IsCut}
use Rattle.cj_slabs.specs.declared.cutting.Cut.{Cut}
use Rattle.cj_slabs.proofs.closing.Cuts.look.Goals as goal

pub invariant_of-self : goal.invariant_of-self
invariant_of-self c =
    All-set (λ (cut : Option Cut). IfSome cut (IsCut (plain_problem c.self.inside.problem.now))) c.self.inside.kept.items c.args.object c.cut_over-cut.result c.cut_over-cut.ensures c.self.invariant
