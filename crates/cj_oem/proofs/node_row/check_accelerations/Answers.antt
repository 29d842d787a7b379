use Rattle.std.proofs.Common.{◌≡◌, ℕ, ◌<◌, ◌≤◌, ◌∙◌, ap, sym, arith, length, drop, take, get_or, false, refl, []}
use Rattle.std.proofs.lemmas.List.{drop_all, get_or-drop, length-drop, length-map, length-take}
use Rattle.std.specs.List.{list_all}
use Rattle.cj_kvn.specs.Ranges.{text_at}
use Rattle.std.proofs.lemmas.List.Folds.{list_all_at}
use Rattle.cj_kvn.specs.Fields.{texts_of}
use Rattle.cj_oem.specs.NodeRows.{is_decimal}
use Rattle.cj_oem.proofs.node_row.check_accelerations.Goals as goal

pub returns-then-not-is_decimal : goal.returns-then-not-is_decimal
returns-then-not-is_decimal c =
    let row = c.args.row.now in
    let texts = texts_of c.args.bytes.now row in
    let i = c.loop-index.index in
    let exact : c.text.result.now ≡ get_or texts i [] = c.text.ensures.exact in
    let there : i < length texts = c.text.ensures.there in
    let first : get_or (drop i texts) 0 [] ≡ get_or texts i [] = get_or-drop i texts 0 [] ∙ ap (λ (k : ℕ). get_or texts k []) (omega arith) in
    let here : is_decimal (get_or (drop i texts) 0 []) ≡ false = ap is_decimal (first ∙ sym exact) ∙ sym c.is_decimal.ensures ∙ c.if-not-is_decimal.true in
    let some = c.loop-index.invariant ∙ list_all_at is_decimal (drop i texts) 0 [] (omega (arith, length-drop i texts)) here in
    rw some refl

pub returns : goal.returns
returns c =
    let row = c.args.row.now in
    let texts = texts_of c.args.bytes.now row in
    let long : length texts ≤ c.loop-index.index = omega (
      arith,
      length-map (take row.count row.found) (text_at c.args.bytes.now),
      length-take row.count
          row.found,
    ) in
    rw (c.loop-index.invariant ∙ ap (list_all is_decimal) (drop_all c.loop-index.index texts long)) refl
