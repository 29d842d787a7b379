use Rattle.std.proofs.Common.{◌*◌, sym, ap}
use Rattle.cj_candidates.proofs.CountLemmas.{pair_number}
use Rattle.cj_outputs.proofs.counting.pairs_of_many.Goals as goal

pub returns : goal.returns
returns c = sym (pair_number c.args.objects _ (ap (λ n. c.args.objects * n) c.saturating_sub.ensures))
