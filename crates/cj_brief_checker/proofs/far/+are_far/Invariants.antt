use Rattle.std.proofs.Common.{◌-◌}
use Rattle.cj_brief_checker.proofs.far.+are_far.Given as goal

abbrev pub decreases-are_far : goal.decreases-are_far
decreases-are_far l = l.last.micros - l.first.micros
