use Rattle.std.proofs.Common.{refl}
use Rattle.cj_cert_text.proofs.printed_line.kind_word.Goals as goal

pub returns-in-Far : goal.returns-in-Far
returns-in-Far c = rw c.in-Far.is refl
