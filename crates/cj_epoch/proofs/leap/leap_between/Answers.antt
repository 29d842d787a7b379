use Rattle.std.proofs.Common.{refl}
use Rattle.jiff_core.specs.Calendar.{days_of_months}
use Rattle.cj_base.specs.Calendar.{days_of_years}
use Rattle.cj_epoch.specs.declared.leap.TheConstants.{AFTER_LEAP_SECONDS}
use Rattle.cj_base.specs.LeapSeconds.{leap_lies_between}
use Rattle.cj_epoch.proofs.LeapLemmas.{ascends-IsNonDecreasing}
use Rattle.cj_epoch.proofs.leap.leap_between.Goals as goal

pub has_within-requires : goal.has_within-requires
has_within-requires c = ascends-IsNonDecreasing AFTER_LEAP_SECONDS refl

pub returns : goal.returns
unfolding leap_lies_between days_of_years days_of_months
returns c = c.has_within.ensures
