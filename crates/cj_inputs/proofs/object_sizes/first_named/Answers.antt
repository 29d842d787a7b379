use Rattle.std.proofs.Common.{[], arith, sym}
use Rattle.std.specs.Str.{bytes_eq}
use Rattle.std.proofs.lemmas.List.Quantifiers.{position-Some}
use Rattle.cj_inputs.proofs.object_sizes.first_named.Goals as goal

pub overflow_cast-result : goal.overflow_cast-result
overflow_cast-result c =
    let here = position-Some (λ other. bytes_eq other c.args.name.now) c.args.names.now c.in_ok-number.number [] (sym c.in_ok-number.ensures) in
    omega (arith, here.0)

pub returns-clause-within : goal.returns-clause-within
returns-clause-within c =
    let here = position-Some (λ other. bytes_eq other c.args.name.now) c.args.names.now c.in_ok-number.number [] (sym c.in_ok-number.ensures) in
    omega (arith, here.0)

pub returns-clause-value : goal.returns-clause-value
returns-clause-value c = c.in_ok-number.ensures
