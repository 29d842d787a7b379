use Rattle.std.proofs.Common.{refl, sym}
use Rattle.cj_cert_text.specs.Lines.{line_said}
use Rattle.cj_cert_text.proofs.line_said.line_said.Goals as goal

pub returns-then-has_ended : goal.returns-then-has_ended
unfolding line_said
returns-then-has_ended c = rw (sym c.has_ended.ensures, c.if-has_ended.true) refl
