use Rattle.std.proofs.Common.{◌≡◌, ◌+◌, ◌≤◌, length}
use Rattle.std.specs.Prelude.{IsTrue}
use Rattle.cj_words.specs.Options.{given_of, listed, are_listed, count_of}
use Rattle.cj_words.proofs.given.count_of.Given as goal

abbrev pub invariant-loop-front : goal.invariant-loop-front
invariant-loop-front l = record {
  known : IsTrue (are_listed (given_of l.rest));
  counted : l.count + count_of l.option (listed (given_of l.rest)) ≡ count_of l.option (listed (given_of l.words));
  small : l.count + length l.rest ≤ length l.words;
}

abbrev pub decreases-loop-front : goal.decreases-loop-front
decreases-loop-front l = length l.rest
