-- What the cells of an accepted certificate in brief say of each common tick of each pair.
use Rattle.cj_case.specs.PlainProblems.{PlainProblem}
use Rattle.cj_cert.specs.Splits.{CellsSplit}
use Rattle.cj_brief.specs.Accepted.{AcceptedInBrief}
use Rattle.cj_brief.specs.Certificates.{PlainBrief}

-- whatever certificate in brief is accepted for a problem, its cells split the common ticks as those of one in full do
abbrev pub BriefSplits : PlainProblem → Type 0
BriefSplits case = (c : PlainBrief) → AcceptedInBrief case c → CellsSplit case c.cells
