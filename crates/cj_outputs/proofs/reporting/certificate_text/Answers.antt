use Rattle.std.proofs.Common.{◌∙◌}
use Rattle.cj_case.specs.Problems.{plain_problem}
use Rattle.cj_outputs.proofs.CertificateLemmas.{leaves_alike}
use Rattle.cj_outputs.proofs.reporting.certificate_text.Goals as goal

pub new-requires-clause-measured : goal.new-requires-clause-measured
new-requires-clause-measured c = c.requires.measured

pub new-requires-clause-leaves : goal.new-requires-clause-leaves
new-requires-clause-leaves c = c.requires.leaves ∙ leaves_alike (plain_problem c.args.problem.now)
