use Rattle.std.proofs.lemmas.List.Elements.{All-drop, All-take}
use Rattle.cj_base.specs.Decimals.{IsReadable, number_of}
use Rattle.cj_oem.proofs.CovarianceTextLemmas.{row_more}
use Rattle.cj_oem.proofs.TextLemmas.{joined}
use Rattle.cj_oem.proofs.printing.covariances.push_row.Goals as goal

pub push_numbers-requires : goal.push_numbers-requires
push_numbers-requires c =
    let matrix = c.args.matrix.now in
    All-take (λ d. IsReadable (number_of d)) _ _ (All-drop (λ d. IsReadable (number_of d)) c.args.start matrix.values matrix.readable)

pub returns : goal.returns
returns c =
    let old = c.args.text.now.items in
    row_more old _ c.args.start c.args.count c.args.matrix.now.values (joined old _ _ _ _ c.in_ok-push_numbers.ensures c.in_ok-push.ensures.items)
