use Rattle.std.proofs.Common.{arith, ap, ◌∙◌, ◌+◌, ℕ}
use Rattle.std.specs.Prelude.{insert}
use Rattle.std.proofs.lemmas.Fmt.{length-decimal-le, decimal_nonempty}
use Rattle.cj_kvn.proofs.PrintLemmas.{significand_pushed}
use Rattle.cj_kvn.proofs.printing.push_significand.Goals as goal

pub push_number-requires : goal.push_number-requires
push_number-requires c = omega (arith, length-decimal-le 18 c.args.digits (omega arith) (omega arith) (omega arith))

pub insert-requires : goal.insert-requires
insert-requires c =
    let short = length-decimal-le 18 c.args.digits (omega arith) (omega arith) (omega arith) in
    let some = decimal_nonempty c.args.digits (omega arith) in
    (omega arith, (omega (arith, c.len-place.ensures.value, c.push_number.ensures.len), omega (arith, c.push_number.ensures.len)))

pub push_if-requires : goal.push_if-requires
push_if-requires c =
    let short = length-decimal-le 18 c.args.digits (omega arith) (omega arith) (omega arith) in
    omega (arith, c.push_number.ensures.len, c.insert.ensures.len)

pub returns-clause-appended : goal.returns-clause-appended
returns-clause-appended c =
    let point = c.insert.ensures.items ∙ ap (λ (place : ℕ). insert c.push_number.new.text.items (place + 1) 46) c.len-place.ensures.value in
    significand_pushed _ _ _ _ c.args.digits (omega arith) c.push_number.ensures.appended point c.push_if.ensures.appended

pub returns-clause-len : goal.returns-clause-len
returns-clause-len c =
    let short = length-decimal-le 18 c.args.digits (omega arith) (omega arith) (omega arith) in
    omega (arith, c.push_number.ensures.len, c.insert.ensures.len, c.push_if.ensures.len)
