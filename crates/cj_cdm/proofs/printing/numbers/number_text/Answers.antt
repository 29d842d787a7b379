use Rattle.std.proofs.Common.{arith, ap, length}
use Rattle.cj_cdm.proofs.NumberLemmas.{decimal_length}
use Rattle.cj_cdm.proofs.printing.numbers.number_text.Goals as goal

pub push_decimal-requires : goal.push_decimal-requires
push_decimal-requires c = omega (arith, ap length c.new-text.ensures, decimal_length c.from-else-number-lt1000000.result (omega (arith, c.from-else-number-lt1000000.type_inv)))
