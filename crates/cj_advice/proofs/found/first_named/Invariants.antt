use Rattle.std.proofs.Common.{◌≡◌, drop}
use Rattle.std.specs.Prelude.{find}
use Rattle.std.specs.Str.{bytes_eq}
use Rattle.cj_advice.specs.Causes.{cause_named, word_of}
use Rattle.cj_advice.proofs.found.first_named.Given as goal

abbrev pub invariant-loop-cause : goal.invariant-loop-cause
invariant-loop-cause l = cause_named l.word ≡ find (λ cause. bytes_eq (word_of cause) l.word) (drop l.cause-index l.cause-items)
