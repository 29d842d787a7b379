-- What an answer says of a certificate.
use Rattle.std.specs.Prelude.{Option, None}
use Rattle.cj_checker.specs.declared.answer.Answer.{Answer}
use Rattle.cj_checker.specs.declared.answer.Answer.TheVariants as answers
use Rattle.cj_checker.specs.First.{failed, Failure}

-- the first failure, and none where it is accepted
abbrev pub failure_of : Answer → Option Failure
failure_of answers.Accepted = None
failure_of (answers.Refused line cause) = failed line cause
