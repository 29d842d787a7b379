use Rattle.std.proofs.Common.{◌≡◌, ◌∙◌, ◌++◌, ap, arith, refl, w64, to_z, of_z}
use Rattle.std.specs.Prelude.{codes}
use Rattle.std.proofs.lemmas.Int.{ints}
use Rattle.std.proofs.lemmas.Result.{on_ok_weaker}
use Rattle.cj_gen.specs.Texts.{kilometres, place_text}
use Rattle.cj_gen.proofs.TextLemmas.{joined, joined_ok}
use Rattle.cj_gen.proofs.figures.push_place.Goals as goal

pub returns : goal.returns
unfolding place_text
returns c =
    let v = c.args.place in
    let old = c.args.text.now.items in
    let whole_x : to_z w64 (of_z w64 v.x) ≡ v.x = omega (arith, ints) in
    let whole_y : to_z w64 (of_z w64 v.y) ≡ v.y = omega (arith, ints) in
    let whole_z : to_z w64 (of_z w64 v.z) ≡ v.z = omega (arith, ints) in
    let x = c.in_ok-push_kilometres.ensures ∙ ap (λ z. old ++ codes " " ++ kilometres z) whole_x in
    let y = c.in_ok-push_kilometres-2.ensures ∙ ap (λ z. c.push_kilometres.new.text.items ++ codes " " ++ kilometres z) whole_y in
    let z = on_ok_weaker c.push_kilometres-3.result (λ e. e ∙ ap (λ z. c.push_kilometres-2.new.text.items ++ codes " " ++ kilometres z) whole_z) c.push_kilometres-3.ensures in
    let first = joined old _ _ _ _ refl x in
    let second = joined old _ _ _ _ (joined old _ _ _ _ first refl) y in
    joined_ok c.push_kilometres-3.result old _ _ _ _ (joined old _ _ _ _ second refl) z
