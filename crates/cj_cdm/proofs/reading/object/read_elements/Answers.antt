use Rattle.std.proofs.Common.{arith, ◌+◌, ◌<◌, ◌∙◌, List, ap, drop, map, refl, sym, take}
use Rattle.std.proofs.lemmas.List.{length-set, take_all}
use Rattle.std.proofs.lemmas.Result.{err_from_is_err_and}
use Rattle.cj_base.specs.Decimals.{number_of}
use Rattle.cj_base.specs.Numbers.{Number}
use Rattle.cj_cdm.specs.Elements.{element_of}
use Rattle.cj_cdm.specs.Read.{plain_rest}
use Rattle.cj_cdm.specs.Reading.{elements_said}
use Rattle.cj_cdm.specs.Texts.{elements}
use Rattle.cj_cdm.proofs.ReaderLemmas.{element_failed, element_read, elements_read, prepended, prepended_none, values_more}
use Rattle.cj_cdm.proofs.reading.object.read_elements.Goals as goal

pub loop-index-init : goal.loop-index-init
loop-index-init c = (refl, sym (prepended_none (elements_said elements (plain_rest c.args.rest.now))))

pub returns-in_err-values : goal.returns-in_err-values
returns-in_err-values c =
    let p = err_from_is_err_and c.from_residual.result c.from_residual.ensures.1 in
    let i = c.loop-index.index in
    let short : i < 21 = omega arith in
    rw (p.1, p.2) (element_failed i (map number_of (take i c.loop-index.values)) (element_of c.element_at-element.result) (plain_rest c.loop-index.rest) c.in_err-values.field-0.0
    (elements_said elements (plain_rest c.args.rest.now)) short c.element_at-element.ensures c.in_err-values.ensures c.loop-index.invariant.1)

pub loop-index-preserved : goal.loop-index-preserved
loop-index-preserved c =
    let i = c.loop-index.index in
    let values = c.loop-index.values in
    let value = c.in_ok-values.field-0 in
    let long = c.loop-index.invariant.0 in
    let short : i < 21 = omega arith in
    let read = element_read i (map number_of (take i values)) (element_of c.element_at-element.result) (number_of value) (plain_rest c.loop-index.rest) (plain_rest c.element.new.self)
    (elements_said elements (plain_rest c.args.rest.now)) short c.element_at-element.ensures c.in_ok-values.ensures c.loop-index.invariant.1 in (
      length-set values i value ∙ long,
      read ∙ ap (λ (vs : List Number). prepended vs (elements_said (drop (i + 1) elements) (plain_rest c.element.new.self))) (sym (values_more values i value (omega (arith, long)))),
    )

pub returns : goal.returns
returns c =
    let i = c.loop-index.index in
    let values = c.loop-index.values in
    let all = take_all i values (omega (arith, c.loop-index.invariant.0, c.loop-index-test.false)) in
    elements_read (map number_of values) i (plain_rest c.loop-index.rest) (elements_said elements (plain_rest c.args.rest.now)) c.loop-index-test.false
    (c.loop-index.invariant.1 ∙ ap (λ vs. prepended (map number_of vs) (elements_said (drop i elements) (plain_rest c.loop-index.rest))) all)
