use Rattle.cj_cert_text.proofs.SplitLemmas.{left_empty}
use Rattle.cj_cert_text.proofs.words.Words.is_empty.Goals as goal

pub returns : goal.returns
returns c = left_empty c.args.self.rest c.is_none.result c.is_none.ensures
