use Rattle.std.proofs.Common.{◌≡◌, ◌+◌, ◌<◌, ◌≤◌, [], length, map, take, get_or, Ok, Err, ap, sym, ◌∙◌, arith, subst}
use Rattle.std.proofs.lemmas.List.{take_all}
use Rattle.std.proofs.lemmas.List.Elements.{All-from_all_within, AllWithin-none, AllWithin-more_set, AllWithin-upto}
use Rattle.std.proofs.lemmas.Result.{err_from_is_err_and}
use Rattle.cj_base.specs.Decimals.{number_of}
use Rattle.cj_kvn.specs.Decimals.{decimal_of}
use Rattle.cj_kvn.specs.Fields.{fields}
use Rattle.cj_kvn.specs.Ranges.{text_at}
use Rattle.cj_oem.specs.CovarianceRows.{number_or}
use Rattle.cj_oem.proofs.DraftLemmas.{HasSaid, IsKept, said_all, said_fault, said_more, said_none, written_more}
use Rattle.cj_oem.proofs.draft.read_numbers.Goals as goal

pub loop-index-init : goal.loop-index-init
loop-index-init c = (said_none (fields (text_at c.args.bytes.now c.args.text)), AllWithin-none IsKept c.args.places.now 0)

pub returns-in_err-place-clause-value : goal.returns-in_err-place-clause-value
returns-in_err-place-clause-value c =
    let p = err_from_is_err_and c.from_residual.result c.from_residual.ensures.1 in
    let row = fields (text_at c.args.bytes.now c.args.text) in
    let inside : c.loop-index.index < length row = omega (arith, c.requires.count, c.loop-index-test.true, c.loop-index.auto.places) in
    let said : number_or (decimal_of (get_or row c.loop-index.index [])) ≡ Err c.in_err-place.field-0.0 = ap (λ text. number_or (decimal_of text)) (sym c.field_text.ensures.exact) ∙ c.in_err-place.ensures.value in
    rw (p.1, p.2) (said_fault row c.loop-index.index _ c.in_err-place.field-0.0 inside said c.loop-index.invariant.0)

pub loop-index-preserved : goal.loop-index-preserved
loop-index-preserved c =
    let row = fields (text_at c.args.bytes.now c.args.text) in
    let i = c.loop-index.index in
    let inside : i < length row = omega (arith, c.requires.count, c.loop-index-test.true, c.loop-index.auto.places) in
    let within : i < length c.loop-index.places = omega (arith, c.loop-index-test.true) in
    let said : number_or (decimal_of (get_or row i [])) ≡ Ok (number_of c.in_ok-place.field-0) = ap (λ text. number_or (decimal_of text)) (sym c.field_text.ensures.exact) ∙ c.in_ok-place.ensures.value in (
      subst (HasSaid row (i + 1)) (sym (written_more c.loop-index.places i c.in_ok-place.field-0 within))
          (said_more row i (map number_of (take i c.loop-index.places)) (number_of c.in_ok-place.field-0) inside said c.loop-index.invariant.0),
      AllWithin-more_set c.loop-index.places i c.in_ok-place.field-0 within IsKept c.loop-index.invariant.1 c.in_ok-place.ensures.readable,
    )

pub returns-clause-value : goal.returns-clause-value
returns-clause-value c =
    let row = fields (text_at c.args.bytes.now c.args.text) in
    let past : length row ≤ c.loop-index.index = omega (arith, c.requires.count, c.loop-index-test.false, c.loop-index.auto.places) in
    let whole : length c.loop-index.places ≤ c.loop-index.index = omega (arith, c.loop-index-test.false) in
    said_all row c.loop-index.index _ past c.loop-index.invariant.0 ∙ ap (λ ds. Ok (map number_of ds)) (take_all c.loop-index.index c.loop-index.places whole)

pub returns-clause-readable : goal.returns-clause-readable
returns-clause-readable c =
    let whole : length c.loop-index.places ≤ c.loop-index.index = omega (arith, c.loop-index-test.false) in
    All-from_all_within IsKept c.loop-index.places (AllWithin-upto IsKept c.loop-index.places 0 c.loop-index.index _ whole c.loop-index.invariant.1)
