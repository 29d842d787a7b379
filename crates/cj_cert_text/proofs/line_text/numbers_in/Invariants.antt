use Rattle.std.proofs.Common.{◌≡◌, ◌++◌, ◌-◌, ◌≤◌, length, map}
use Rattle.cj_cert_text.specs.Numbers.{numbers_in, others_in}
use Rattle.cj_cert_text.specs.Readers.{capped, words_in}
use Rattle.cj_cert_text.proofs.line_text.numbers_in.Given as goal

-- the numbers so far, and those in front of the words that are left
abbrev pub invariant-loop-rest : goal.invariant-loop-rest
invariant-loop-rest l = record {
  numbers : map capped (numbers_in (words_in l.fn.words.rest)) ≡ l.numbers.items ++ map capped (numbers_in (words_in l.rest.rest));
  others : others_in (words_in l.fn.words.rest) ≡ others_in (words_in l.rest.rest);
  room : length l.numbers.items ≤ 10;
}

abbrev pub decreases-loop-rest : goal.decreases-loop-rest
decreases-loop-rest l = 10 - length l.numbers.items
