use Rattle.std.proofs.Common.{get_or, length, arith, inl, inr, ◌∙◌, sym}
use Rattle.std.proofs.lemmas.Bool.{cases_lt, le-leb, lt-leb, le-ltb}
use Rattle.cj_epoch.proofs.LeapLemmas.{found, not_found}
use Rattle.cj_epoch.proofs.leap.has_within.Goals as goal

pub returns-then-next-numbers : goal.returns-then-next-numbers
returns-then-next-numbers c =
    let numbers = c.args.numbers.now in
    let next = c.first_above-next.result in
    elim (cases_lt c.args.high (get_or numbers next 0)) [
      | inl above ↦
          lt-leb (get_or numbers next 0) c.args.high above
          ∙ sym (not_found numbers c.args.low c.args.high next c.requires c.first_above-next.ensures.below (λ inside. above))
      | inr below ↦
          le-leb (get_or numbers next 0) c.args.high below
          ∙ sym (found numbers c.args.low c.args.high next c.if-next-numbers.true (c.first_above-next.ensures.above next 0 (omega arith) c.if-next-numbers.true) below)
    ]

pub returns-else-next-numbers : goal.returns-else-next-numbers
returns-else-next-numbers c =
    let numbers = c.args.numbers.now in
    let next = c.first_above-next.result in
    le-ltb next (length numbers) c.if-next-numbers.false
    ∙ sym (not_found numbers c.args.low c.args.high next c.requires c.first_above-next.ensures.below (λ inside. absurd (omega arith)))
