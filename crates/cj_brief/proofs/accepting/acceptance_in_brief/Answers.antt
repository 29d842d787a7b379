use Rattle.cj_case.specs.Problems.{plain_problem}
use Rattle.cj_cert.proofs.ListedLemmas.{near_in_time}
use Rattle.cj_brief.proofs.BriefLemmas.{splits_in_brief}
use Rattle.cj_brief.proofs.WrittenLemmas.{written_in_brief_accepted}
use Rattle.cj_brief.proofs.accepting.acceptance_in_brief.Goals as goal

pub returns-clause-splits : goal.returns-clause-splits
returns-clause-splits c certificate =
    let problem = c.args.problem.now in
    let case = plain_problem problem in
    splits_in_brief case certificate (near_in_time case c.acceptance.ensures.near) problem.least

pub returns-clause-written : goal.returns-clause-written
returns-clause-written c =
    let problem = c.args.problem.now in
    let case = plain_problem problem in
    written_in_brief_accepted case (near_in_time case c.acceptance.ensures.near) problem.least c.acceptance.ensures.written
