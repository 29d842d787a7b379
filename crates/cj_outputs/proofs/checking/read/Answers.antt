use Rattle.std.proofs.Common.{◌∙◌, ap, sym}
use Rattle.cj_outputs.specs.Either.{any_reading}
use Rattle.cj_outputs.specs.Outcome.{said_or}
use Rattle.cj_outputs.proofs.checking.read.Goals as goal

pub returns-clause-told : goal.returns-clause-told
returns-clause-told c = ap said_or (ap (any_reading c.args.brief) (sym c.deref.ensures.value) ∙ (rw c.in-Err-At.field-0-is at c.in-Err-At.ensures.value))
