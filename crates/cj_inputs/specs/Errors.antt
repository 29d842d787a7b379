-- The statuses that errors of reading become.
use Rattle.cj_inputs.specs.declared.reading.InputError.{InputError}
use Rattle.cj_inputs.specs.declared.reading.InputError.TheVariants as input
use Rattle.cj_status.specs.declared.status.Status.{Status}
use Rattle.cj_status.specs.declared.status.Status.TheVariants.{OutOfMemory, ReadFault, BadFile, Limit}

abbrev pub input_status : InputError → Status
input_status input.Memory = OutOfMemory
input_status input.Failed = ReadFault
input_status (input.Refused file line cause) = BadFile file line cause
input_status (input.Limit fault) = Limit fault
