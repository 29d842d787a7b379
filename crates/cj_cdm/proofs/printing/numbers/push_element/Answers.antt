use Rattle.std.proofs.Common.{List, ◌++◌, ap, ◌∙◌, arith, ℕ}
use Rattle.std.proofs.lemmas.Int.{ints}
use Rattle.cj_kvn.proofs.ReadableLemmas.{exponent_bounds}
use Rattle.cj_kvn.specs.Decimals.{decimal_text_of}
use Rattle.cj_base.specs.Decimals.{number_of}
use Rattle.cj_cdm.specs.Building.{in_square_metres}
use Rattle.cj_cdm.proofs.NumberLemmas.{shifted_within}
use Rattle.cj_cdm.proofs.TextLemmas.{quantity_ok}
use Rattle.cj_cdm.proofs.printing.numbers.push_element.Goals as goal

pub shift-requires-clause-low : goal.shift-requires-clause-low
shift-requires-clause-low c = omega (arith, ints, exponent_bounds c.args.value c.requires)

pub shift-requires-clause-high : goal.shift-requires-clause-high
shift-requires-clause-high c = omega (arith, ints, exponent_bounds c.args.value c.requires)

pub decimal_text-requires-clause-low : goal.decimal_text-requires-clause-low
decimal_text-requires-clause-low c = (shifted_within c.args.value c.shift.result c.requires c.shift.ensures.exact).0

pub decimal_text-requires-clause-high : goal.decimal_text-requires-clause-high
decimal_text-requires-clause-high c = (shifted_within c.args.value c.shift.result c.requires c.shift.ensures.exact).1

pub returns : goal.returns
returns c =
    let front = c.push_front.new.text.items in
    let digits = c.deref.ensures.0 ∙ c.decimal_text.ensures.exact ∙ ap decimal_text_of c.shift.ensures.exact in
    quantity_ok c.push_unit.result c.args.text.now.items front c.extend_from_slice.new.self.items c.push_unit.new.text.items
    c.args.key.now (decimal_text_of (in_square_metres (number_of c.args.value))) c.args.unit.now
    c.in_ok-push_front.ensures (c.in_ok-extend_from_slice.ensures.items ∙ ap (λ (t : List ℕ). front ++ t) digits) c.push_unit.ensures
