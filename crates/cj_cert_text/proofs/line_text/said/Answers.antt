use Rattle.std.proofs.Common.{◌∙◌}
use Rattle.cj_cert_text.specs.Readers.{words_in}
use Rattle.cj_cert_text.proofs.SaidLemmas.{tells_kept}
use Rattle.cj_cert_text.proofs.line_text.said.Goals as goal

pub returns : goal.returns
returns c =
    tells_kept c.args.format c.args.rank (words_in c.args.words.rest) (words_in c.numbers_in-numbers.result.1.rest) c.as_slice.result.now c.said_by.result
    (c.as_slice.ensures.value ∙ c.numbers_in-numbers.ensures.numbers) c.numbers_in-numbers.ensures.others c.said_by.ensures
