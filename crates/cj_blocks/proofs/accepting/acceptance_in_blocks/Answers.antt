use Rattle.cj_case.specs.Problems.{plain_problem}
use Rattle.cj_cert.proofs.ListedLemmas.{near_in_time}
use Rattle.cj_blocks.proofs.RewrittenLemmas.{in_version_2_accepted, written_in_accepted}
use Rattle.cj_blocks.proofs.accepting.acceptance_in_blocks.Goals as goal

pub returns-clause-in_version : goal.returns-clause-in_version
returns-clause-in_version c version =
    let case = plain_problem c.args.problem.now in
    written_in_accepted version case (near_in_time case c.acceptance.ensures.near) c.acceptance.ensures.written

pub returns-clause-rewritten : goal.returns-clause-rewritten
returns-clause-rewritten c certificate accepted =
    let case = plain_problem c.args.problem.now in
    in_version_2_accepted case certificate (near_in_time case c.acceptance.ensures.near) accepted
