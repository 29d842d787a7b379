use Rattle.std.proofs.Common.{append-nil, sym}
use Rattle.cj_outputs.proofs.reporting.push_behind.Goals as goal

pub returns-in-Nothing : goal.returns-in-Nothing
returns-in-Nothing c = rw c.in-Nothing.is (sym (append-nil c.args.text.now.items))
