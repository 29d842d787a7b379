use Rattle.std.proofs.lemmas.Result.{IfOk-from_err}
use Rattle.cj_kvn.proofs.TextLemmas.{joined_ok}
use Rattle.cj_report.proofs.objects.push_marked.Goals as goal

pub returns-in_err-push_sized : goal.returns-in_err-push_sized
returns-in_err-push_sized c = IfOk-from_err c.from_residual.result _ c.from_residual.ensures.0

pub returns : goal.returns
returns c = joined_ok c.push_primary.result c.args.text.now.items c.push_sized.new.text.items _ _ _ c.in_ok-push_sized.ensures (rw c.is_named.ensures at c.push_primary.ensures)
