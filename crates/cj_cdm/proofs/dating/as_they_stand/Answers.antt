use Rattle.std.proofs.Common.{◌≡◌, ◌∙◌, ◌++◌, ◌∷◌, [], List, ap, get_or, length, rules, sym, arith, ◌<◌}
use Rattle.cj_cdm.specs.declared.dated.Dated.{Dated}
use Rattle.cj_cdm.proofs.DatedLemmas.{dated_push}
use Rattle.cj_cdm.proofs.dating.as_they_stand.Goals as goal

pub loop-place-preserved : goal.loop-place-preserved
loop-place-preserved c =
    let matrices = c.args.matrices.now in
    let place = c.loop-place.place in
    let matrix = c.index-matrices-place.result in
    let lt : place < length matrices = omega arith in
    let is : matrix ≡ get_or matrices place matrix = search rules in
    c.in_ok-push.ensures.items
    ∙ ap (λ (es : List Dated). es ++ record { at = matrix.at; place = place } ∷ []) c.loop-place.invariant
    ∙ sym (dated_push matrices place matrix lt is)
