use Rattle.std.proofs.Common.{ℕ, ◌+◌, ap, arith}
use Rattle.cj_outputs.proofs.VouchLemmas.{lines_few}
use Rattle.cj_outputs.proofs.vouching.differing_line.Goals as goal

pub overflow_cast-result : goal.overflow_cast-result
overflow_cast-result c = omega (arith, c.common_lines.ensures, c.requires, lines_few c.args.bytes.now c.args.others.now)

pub overflow_add-result : goal.overflow_add-result
overflow_add-result c = omega (arith, c.common_lines.ensures, c.requires, lines_few c.args.bytes.now c.args.others.now)

pub returns : goal.returns
returns c = ap (λ (n : ℕ). n + 1) c.common_lines.ensures
