use Rattle.std.proofs.Common.{◌≡◌, ◌++◌, take}
use Rattle.cj_cert_text.specs.Texts.{spaced_numbers}
use Rattle.cj_cert_text.proofs.rows.push_numbers.Given as goal

abbrev pub invariant-loop-number : goal.invariant-loop-number
invariant-loop-number l = l.text.items ≡ l.fn.text.items ++ spaced_numbers (take l.number-index l.numbers)
