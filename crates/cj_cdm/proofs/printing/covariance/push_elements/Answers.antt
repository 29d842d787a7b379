use Rattle.std.proofs.Common.{◌≡◌, ◌<◌, List, ℕ, ◌++◌, map, length, ap, subst, sym, ◌∙◌, arith}
use Rattle.std.proofs.Math.ListN.{get_or-map}
use Rattle.std.proofs.lemmas.List.{length-map}
use Rattle.cj_base.specs.Decimals.{IsReadable, number_of}
use Rattle.cj_base.specs.declared.decimals.Decimal.{Decimal}
use Rattle.cj_cdm.specs.Building.{in_square_metres}
use Rattle.cj_cdm.specs.Elements.{element_of}
use Rattle.cj_cdm.proofs.ElementLemmas.{written_all, written_more}
use Rattle.cj_cdm.proofs.printing.covariance.push_elements.Goals as goal

pub loop-index-preserved : goal.loop-index-preserved
loop-index-preserved c =
    let given = c.args.values.now in
    let numbers = map number_of given in
    let i = c.loop-index.index in
    let value = c.index-values-index.result in
    let whole : length (map in_square_metres numbers) ≡ 21 = omega (arith, length-map numbers in_square_metres, length-map given number_of, c.requires.whole) in
    let short : i < 21 = omega (arith, c.requires.whole) in
    let number = ap number_of c.index-values-index.is ∙ sym (get_or-map number_of given i value) in
    let here = ap in_square_metres number ∙ sym (get_or-map in_square_metres numbers i (number_of value)) in
    written_more (map in_square_metres numbers) i (element_of c.element_at-element.result) (in_square_metres (number_of value))
    c.args.text.now.items c.loop-index.text.items c.push_element.new.text.items
    whole short c.element_at-element.ensures here c.loop-index.invariant c.in_ok-push_element.ensures

pub push_element-requires : goal.push_element-requires
push_element-requires c =
    subst (λ (d : Decimal). IsReadable (number_of d)) (sym c.index-values-index.is) (c.requires.readable c.loop-index.index c.index-values-index.result (omega arith))

pub returns : goal.returns
returns c =
    let numbers = map number_of c.args.values.now in
    let whole : length (map in_square_metres numbers) ≡ 21 = omega (arith, length-map numbers in_square_metres, length-map c.args.values.now number_of, c.requires.whole) in
    c.loop-index.invariant ∙ ap (λ (t : List ℕ). c.args.text.now.items ++ t) (written_all (map in_square_metres numbers) c.loop-index.index whole (omega (arith, c.requires.whole)))
