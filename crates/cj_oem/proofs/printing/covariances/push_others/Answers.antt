use Rattle.std.proofs.Common.{◌∷◌, ◌++◌, ◌∙◌, ap, map, subst, sym, take_all, arith, rules}
use Rattle.std.specs.Prelude.{flat_map}
use Rattle.std.proofs.lemmas.Result.{IfOk-from_err}
use Rattle.cj_base.specs.Decimals.{IsReadable, number_of}
use Rattle.cj_kvn.specs.Decimals.{decimal_text_of}
use Rattle.cj_oem.proofs.TextLemmas.{joined, part_more_of}
use Rattle.cj_oem.proofs.printing.covariances.push_others.Goals as goal

pub loop-other-preserved : goal.loop-other-preserved
loop-other-preserved c =
    part_more_of (λ n. 32 ∷ decimal_text_of n) number_of c.args.others.now c.loop-other.other-index c.other-item.result
    c.args.text.now.items c.loop-other.text.items c.push_decimal.new.text.items (omega arith) (search rules) c.loop-other.invariant
    (joined c.loop-other.text.items _ _ _ _ c.in_ok-push.ensures.items c.in_ok-push_decimal.ensures)

pub push_decimal-requires : goal.push_decimal-requires
push_decimal-requires c =
    subst (λ d. IsReadable (number_of d)) (sym c.other-item.is) (c.requires c.loop-other.other-index c.other-item.result c.loop-other-test.true)

pub returns : goal.returns
returns c =
    let all = take_all c.loop-other.other-index c.args.others.now c.loop-other-test.false in
    c.loop-other.invariant ∙ ap (λ ds. c.args.text.now.items ++ flat_map (λ n. 32 ∷ decimal_text_of n) (map number_of ds)) all

pub returns-in_err-push : goal.returns-in_err-push
returns-in_err-push c = IfOk-from_err c.from_residual.result _ c.from_residual.ensures.0

pub returns-in_err-push_decimal : goal.returns-in_err-push_decimal
returns-in_err-push_decimal c = IfOk-from_err c.from_residual-in_err-push_decimal.result _ c.from_residual-in_err-push_decimal.ensures.0
