-- The numbers of statuses.
use Rattle.std.specs.Prelude.{ℕ}
use Rattle.cj_status.specs.declared.status.Status.{Status}
use Rattle.cj_status.specs.declared.status.Status.TheVariants as status

abbrev pub number_of : Status → ℕ
number_of status.Ok = 0
number_of (status.NotAccepted line cause) = 1
number_of (status.Usage fault) = 2
number_of (status.BadFile file line cause) = 3
number_of status.ReadFault = 4
number_of status.WriteFault = 5
number_of (status.Limit fault) = 6
number_of status.OutOfMemory = 7
