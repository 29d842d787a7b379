use Rattle.std.proofs.Common.{◌≡◌, ◌∙◌, ap, arith, of_z, sym, to_z}
use Rattle.std.proofs.lemmas.Int.{ints}
use mir.Syntax.{w32}
use Rattle.cj_base.specs.Decimals.{number_of, shifted}
use Rattle.cj_kvn.specs.Decimals.{number_read}
use Rattle.cj_cdm.proofs.FigureLemmas.{scientific_told, scientific_unread, scientific_unraised}
use Rattle.cj_cdm.proofs.ValueLemmas.{result_is}
use Rattle.cj_cdm.proofs.reading.figures.scientific.Goals as goal

pub returns : goal.returns
returns c =
    let read = result_is c.read_decimal.result c.in_ok-significand.significand (sym c.in_ok-significand.ensures.value) in
    let same : to_z w32 (of_z w32 c.in_ok-power.power) ≡ c.in_ok-power.power = omega (arith, ints, c.in_ok-power.ensures.small) in
    let significand = sym c.read_decimal.ensures.exact ∙ ap number_read read in
    scientific_told c.args.text.now c.at_mark.result.0.now c.at_mark.result.1.now (number_of c.in_ok-significand.significand) (number_of c.raised.result) c.in_ok-power.power
    c.at_mark.ensures.before c.at_mark.ensures.behind significand c.in_ok-power.ensures.value (c.raised.ensures ∙ ap (shifted (number_of c.in_ok-significand.significand)) same)

pub returns-in_err-significand : goal.returns-in_err-significand
returns-in_err-significand c =
    rw c.from_residual.ensures
    (scientific_unread c.args.text.now c.at_mark.result.0.now c.read_decimal.result c.at_mark.ensures.before c.read_decimal.ensures.exact c.in_err-significand.ensures.value)

pub returns-in_err-power : goal.returns-in_err-power
returns-in_err-power c =
    let read = result_is c.read_decimal.result c.in_ok-significand.significand (sym c.in_ok-significand.ensures.value) in
    rw c.from_residual-in_err-power.ensures
    (scientific_unraised c.args.text.now c.at_mark.result.0.now c.at_mark.result.1.now (number_of c.in_ok-significand.significand) c.at_mark.ensures.before c.at_mark.ensures.behind
    (sym c.read_decimal.ensures.exact ∙ ap number_read read) c.in_err-power.ensures.value)
