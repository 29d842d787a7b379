use Rattle.std.proofs.Common.{ap, sym}
use Rattle.cj_report.specs.Report.{mark_word}
use Rattle.cj_report.proofs.encounters.mark_word.Goals as goal

pub returns-in-Undecided : goal.returns-in-Undecided
returns-in-Undecided c = sym (ap mark_word c.in-Undecided.is)
