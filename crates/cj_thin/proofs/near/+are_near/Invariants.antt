use Rattle.std.proofs.Common.{◌-◌}
use Rattle.cj_thin.proofs.near.+are_near.Given as goal

abbrev pub decreases-are_near : goal.decreases-are_near
decreases-are_near l = l.last.micros - l.first.micros
