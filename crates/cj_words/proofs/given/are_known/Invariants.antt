use Rattle.std.proofs.Common.{◌≡◌, length}
use Rattle.cj_words.specs.Options.{given_of, are_known}
use Rattle.cj_words.proofs.given.are_known.Given as goal

abbrev pub invariant-loop-front : goal.invariant-loop-front
invariant-loop-front l = are_known l.verb (given_of l.rest) ≡ are_known l.verb (given_of l.words)

abbrev pub decreases-loop-front : goal.decreases-loop-front
decreases-loop-front l = length l.rest
