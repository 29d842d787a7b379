use Rattle.std.proofs.lemmas.Result.{IfOk-from_err}
use Rattle.cj_kvn.proofs.TextLemmas.{joined_ok}
use Rattle.cj_report.proofs.objects.push_object.Goals as goal

pub returns-in_err-push_marked : goal.returns-in_err-push_marked
returns-in_err-push_marked c = IfOk-from_err c.from_residual.result _ c.from_residual.ensures.0

pub returns : goal.returns
returns c = joined_ok c.push_coverage.result c.args.text.now.items c.push_marked.new.text.items _ _ _ c.in_ok-push_marked.ensures c.push_coverage.ensures
