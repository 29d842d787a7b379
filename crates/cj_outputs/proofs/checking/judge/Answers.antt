use Rattle.cj_outputs.proofs.checking.judge.Goals as goal

pub returns-in-InFull-clause-exact : goal.returns-in-InFull-clause-exact
returns-in-InFull-clause-exact g c = rw c.in-InFull.is c.check.ensures.exact

pub returns-in-InBrief-clause-exact : goal.returns-in-InBrief-clause-exact
returns-in-InBrief-clause-exact g c = rw c.in-InBrief.is c.check_in_brief.ensures.exact
