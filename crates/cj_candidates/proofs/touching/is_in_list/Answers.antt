use Rattle.std.proofs.Common.{◌∙◌}
use Rattle.cj_candidates.proofs.SearchLemmas.{searched}
use Rattle.cj_candidates.proofs.touching.is_in_list.Goals as goal

pub returns : goal.returns
returns c = c.is_ok.ensures.value ∙ searched c.requires.0 c.args.list.now c.args.pair c.binary_search.result c.requires.1 c.binary_search.ensures.bound c.binary_search.ensures.position
