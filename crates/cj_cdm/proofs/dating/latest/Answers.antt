use Rattle.std.proofs.Common.{◌∙◌, ap, arith, get_or, sym}
use Rattle.cj_cdm.specs.declared.dated.Dated.{Dated}
use Rattle.cj_cdm.proofs.DatedLemmas.{latest_found, latest_none, stands}
use Rattle.cj_cdm.proofs.dating.latest.Goals as goal

pub at_place-requires : goal.at_place-requires
at_place-requires c =
    let entry = c.index-dated-last.result in
    (stands c.args.matrices.now c.args.dated.now c.in_ok-last.last entry c.requires (omega (arith, c.in_ok-last.ensures, c.reached.ensures.bound))).exists

pub returns-in_err-last : goal.returns-in_err-last
returns-in_err-last c =
    rw c.from_residual.ensures (latest_none c.args.matrices.now c.args.dated.now c.args.at.micros c.reached.result c.requires c.reached.ensures.reached (omega (arith, c.in_err-last.ensures)))

pub returns : goal.returns
returns c =
    let matrix = c.at_place.result.now in
    latest_found c.args.matrices.now c.args.dated.now c.args.at.micros c.reached.result c.in_ok-last.last c.index-dated-last.result matrix
    c.requires c.reached.ensures.reached c.reached.ensures.bound (omega (arith, c.in_ok-last.ensures)) c.index-dated-last.is
    (c.at_place.ensures ∙ ap (λ (e : Dated). get_or c.args.matrices.now e.place matrix) (sym c.index-dated-last.is))
