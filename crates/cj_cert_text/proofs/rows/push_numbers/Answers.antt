use Rattle.std.proofs.Common.{◌≡◌, [], ◌∷◌, ◌++◌, get_or, ap, ◌∙◌, append_assoc, arith, rules, to_z, of_z}
use Rattle.std.specs.Prelude.{pos}
use mir.Syntax.{w128}
use Rattle.std.proofs.lemmas.Int.{to_z-of_z}
use Rattle.std.specs.Fmt.{signed_decimal}
use Rattle.std.proofs.lemmas.List.{get_or_default, take_all}
use Rattle.cj_cert_text.specs.Texts.{spaced_numbers}
use Rattle.cj_kvn.proofs.TextLemmas.{part_more}
use Rattle.cj_cert_text.proofs.rows.push_numbers.Goals as goal

pub loop-number-preserved : goal.loop-number-preserved
loop-number-preserved c =
    let was = c.loop-number.text.items in
    let digits = c.as_bytes.result.now in
    let spaced = c.in_ok-extend_from_slice.ensures.items ∙ ap (λ t. t ++ digits) c.in_ok-push.ensures.items ∙ append_assoc was (32 ∷ []) digits in
    let number = get_or c.args.numbers.now c.loop-number.number-index (pos 0) in
    let read : to_z w128 (of_z w128 number) ≡ number = to_z-of_z w128 number (search rules) in
    part_more (λ z. 32 ∷ signed_decimal z) c.args.numbers.now c.loop-number.number-index number c.args.text.now.items was c.extend_from_slice.new.self.items
    (omega arith) (get_or_default c.args.numbers.now c.loop-number.number-index _ _ (omega arith)) c.loop-number.invariant (spaced ∙ ap (λ t. was ++ 32 ∷ t) (c.as_bytes.ensures.value ∙ c.format.ensures.text ∙ ap signed_decimal read))

pub returns : goal.returns
returns c = c.loop-number.invariant ∙ ap (λ ns. c.args.text.now.items ++ spaced_numbers ns) (take_all c.loop-number.number-index c.args.numbers.now c.loop-number-test.false)
