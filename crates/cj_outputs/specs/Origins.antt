-- What an origin says.
use Rattle.cj_outputs.specs.declared.origin.Origin.{Origin}
use Rattle.cj_outputs.specs.Messages.{PlainOrigin}

abbrev pub plain_origin : Origin → PlainOrigin
plain_origin origin = record { created = origin.created.micros; originator = origin.originator.now; relative = origin.relative }
