use Rattle.std.proofs.Common.{◌++◌, ap, ◌∙◌, subst, sym, arith, rules}
use Rattle.std.proofs.lemmas.Result.{IfOk-from_err, on_ok_weaker}
use Rattle.std.proofs.lemmas.List.Elements.{All-drop, All-take}
use Rattle.cj_base.specs.Decimals.{IsReadable, number_of}
use Rattle.cj_oem.proofs.CovarianceTextLemmas.{numbers_cut}
use Rattle.cj_oem.proofs.TextLemmas.{joined_ok}
use Rattle.cj_oem.proofs.printing.covariances.push_numbers.Goals as goal

pub returns : goal.returns
returns c =
    let old = c.args.text.now.items in
    on_ok_weaker c.push_others.result (λ e. e ∙ ap (λ t. old ++ t) (numbers_cut c.args.numbers.now c.first-item.result (omega arith) (search rules)))
    (joined_ok c.push_others.result old _ _ _ _ c.in_ok-push_decimal.ensures c.push_others.ensures)

pub push_others-requires : goal.push_others-requires
push_others-requires c = All-take (λ d. IsReadable (number_of d)) _ _ (All-drop (λ d. IsReadable (number_of d)) 1 c.args.numbers.now c.requires)

pub push_decimal-requires : goal.push_decimal-requires
push_decimal-requires c = subst (λ d. IsReadable (number_of d)) (sym c.first-item.is) (c.requires 0 c.first-item.result (omega arith))

pub returns-in_err-push_decimal : goal.returns-in_err-push_decimal
returns-in_err-push_decimal c = IfOk-from_err c.from_residual.result _ c.from_residual.ensures.0
