use Rattle.std.proofs.Common.{◌≡◌, ◌∙◌, Ok, Err, ap, sym, arith, to_z, of_z}
use Rattle.std.specs.Int.{w128}
use Rattle.std.proofs.lemmas.Int.{ints}
use Rattle.cj_kvn.specs.Numbers.{scaled_of}
use Rattle.cj_oem.specs.NodeRows.{figure_or}
use Rattle.cj_oem.proofs.figures.parse_figure.Goals as goal

pub returns-in-Ok : goal.returns-in-Ok
returns-in-Ok c =
    let said : Ok c.in-Ok.figure ≡ scaled_of 12 c.args.text.now = c.in-Ok.ensures in
    let whole : to_z w128 (of_z w128 c.in-Ok.figure) ≡ c.in-Ok.figure = omega (arith, ints) in
    ap (λ z. figure_or (Ok z)) whole ∙ ap figure_or said

pub returns-in-Err-TooLarge : goal.returns-in-Err-TooLarge
returns-in-Err-TooLarge c =
    let said : Err c.in-Err-TooLarge.field-0 ≡ scaled_of 12 c.args.text.now = c.in-Err-TooLarge.ensures in
    ap (λ fault. figure_or (Err fault)) (sym c.in-Err-TooLarge.field-0-is) ∙ ap figure_or said

pub returns-in-Err-NotNumber : goal.returns-in-Err-NotNumber
returns-in-Err-NotNumber c =
    let said : Err c.in-Err-NotNumber.field-0 ≡ scaled_of 12 c.args.text.now = c.in-Err-NotNumber.ensures in
    ap (λ fault. figure_or (Err fault)) (sym c.in-Err-NotNumber.field-0-is) ∙ ap figure_or said
