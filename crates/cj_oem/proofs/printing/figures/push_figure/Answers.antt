use Rattle.std.proofs.Common.{◌≡◌, ◌++◌, ◌∙◌, ◌/◌, ◌%◌, ◌^◌, ℕ, [], ◌∷◌, ap, arith, to_z, of_z}
use Rattle.std.specs.Int.{w64}
use Rattle.std.specs.Prelude.{decimal, if◌then◌else◌, int_lt, pos, unsigned_abs}
use Rattle.std.proofs.lemmas.Int.{ints}
use Rattle.std.proofs.lemmas.Result.{IfOk-from_err, on_ok_weaker}
use Rattle.cj_oem.specs.Canonical.{figure_text, twelve}
use Rattle.cj_oem.proofs.TextLemmas.{joined, joined_ok}
use Rattle.cj_oem.proofs.printing.figures.push_figure.Goals as goal

pub returns : goal.returns
unfolding figure_text
returns c =
    let old = c.args.text.now.items in
    let same : to_z w64 (of_z w64 c.args.figure) ≡ c.args.figure = omega (arith, ints) in
    let sign = c.in_ok-extend_from_slice.ensures.items ∙ ap (λ s. old ++ s) (c.sign.ensures ∙ ap (λ z. if int_lt z (pos 0) then 45 ∷ [] else []) same) in
    let point = joined old _ _ _ _ (joined old _ _ _ _ sign c.in_ok-push_number.ensures) c.in_ok-push.ensures.items in
    let size : c.unsigned_abs-size.result ≡ unsigned_abs c.args.figure = omega (arith, ints) in
    on_ok_weaker c.push_digits.result
    (λ e. e ∙ ap (λ (n : ℕ). old ++ ((if int_lt c.args.figure (pos 0) then 45 ∷ [] else []) ++ decimal (n / 10 ^ 12) ++ 46 ∷ [] ++ twelve (n % 10 ^ 12))) size)
    (joined_ok c.push_digits.result old _ _ _ _ point c.push_digits.ensures)

pub returns-in_err-extend_from_slice : goal.returns-in_err-extend_from_slice
returns-in_err-extend_from_slice c = IfOk-from_err c.from_residual.result _ c.from_residual.ensures.0

pub returns-in_err-push_number : goal.returns-in_err-push_number
returns-in_err-push_number c = IfOk-from_err c.from_residual-in_err-push_number.result _ c.from_residual-in_err-push_number.ensures.0

pub returns-in_err-push : goal.returns-in_err-push
returns-in_err-push c = IfOk-from_err c.from_residual-in_err-push.result _ c.from_residual-in_err-push.ensures.0
