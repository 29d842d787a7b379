use Rattle.cj_cert_text.proofs.SplitLemmas.{first_place}
use Rattle.cj_cert_text.proofs.words.place_of.Goals as goal

pub returns : goal.returns
returns c = first_place c.args.byte c.args.text.now c.memchr.result c.memchr.ensures
