use Rattle.std.proofs.Common.{◌∙◌}
use Rattle.cj_case.specs.Problems.{plain_problem}
use Rattle.cj_outputs.proofs.CertificateLemmas.{leaves_alike}
use Rattle.cj_screen.proofs.refining.told_leaves.Goals as goal

pub told_of_list-requires-clause-leaves : goal.told_of_list-requires-clause-leaves
told_of_list-requires-clause-leaves c = c.requires.leaves ∙ leaves_alike (plain_problem c.args.problem.now)
