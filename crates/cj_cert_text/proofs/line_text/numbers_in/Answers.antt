use Rattle.std.proofs.Common.{◌≡◌, arith, length, map}
use Rattle.std.proofs.lemmas.Bool.Decides.{nat_tests}
use Rattle.cj_cert_text.specs.Numbers.{numbers_in}
use Rattle.cj_cert_text.specs.Readers.{capped, words_in}
use Rattle.cj_cert_text.proofs.WordLemmas.{not_few, ten_read}
use Rattle.cj_cert_text.proofs.line_text.numbers_in.Goals as goal

pub returns-clause-numbers : goal.returns-clause-numbers
returns-clause-numbers c =
    let full = c.loop-rest-test.ensures.value in
    let ten : length c.loop-rest.numbers.items ≡ 10 = grind (arith, nat_tests) in
    ten_read c.loop-rest.numbers.items (map capped (numbers_in (words_in c.loop-rest.rest.rest))) (map capped (numbers_in (words_in c.args.words.rest))) c.loop-rest.invariant.numbers ten

pub returns-clause-others : goal.returns-clause-others
returns-clause-others c = λ few.
    let full = c.loop-rest-test.ensures.value in
    let ten : length c.loop-rest.numbers.items ≡ 10 = grind (arith, nat_tests) in
    absurd (not_few c.loop-rest.numbers.items (map capped (numbers_in (words_in c.loop-rest.rest.rest))) (numbers_in (words_in c.args.words.rest)) c.loop-rest.invariant.numbers ten few)
