use Rattle.std.proofs.Common.{Some, ap, sym, ◌∙◌, arith}
use Rattle.cj_track.specs.Tracks.{plain_matrix, plain_track}
use Rattle.cj_hermite.specs.Interpolant.{curve_of}
use Rattle.cj_hermite.specs.Limits.{REACH, RATE_REACH}
use Rattle.cj_rtn.specs.declared.vector.Vector.{Vector}
use Rattle.cj_cdm.specs.Fields.{side_of_fields}
use Rattle.cj_rtn.specs.States.{place_at}
use Rattle.cj_cdm.proofs.SideLemmas.{side_built, side_nowhere, short_within}
use Rattle.cj_cdm.proofs.building.side_of_track.Goals as goal

pub returns-in_err-index-clause-value : goal.returns-in_err-index-clause-value
returns-in_err-index-clause-value c = rw c.from_residual.ensures (sym (side_nowhere (plain_track c.args.track.now) c.args.at.micros (sym c.in_err-index.ensures.value)))

pub returns-clause-value : goal.returns-clause-value
returns-clause-value c =
    let e = plain_track c.args.track.now in
    let m = c.args.at.micros in
    let matrix = c.args.matrix in
    let with_place = λ (p : Vector). Some (side_of_fields (record { track = c.args.track; place = p; rate = c.rate_at.result; matrix = matrix })) in
    let built = side_built e m _ (plain_matrix matrix.now) (curve_of c.piece-piece.result) (sym c.in_ok-index.ensures.piece) c.piece-piece.ensures.curve c.requires in
    ap with_place c.place_at.ensures.value
    ∙ ap (λ (v : Vector). Some (side_of_fields (record { track = c.args.track; place = place_at (curve_of c.piece-piece.result) m; rate = v; matrix = matrix }))) c.rate_at.ensures.value
    ∙ sym built

pub returns-clause-short : goal.returns-clause-short
returns-clause-short c = (
  short_within REACH c.place_at.result (omega arith) c.place_at.ensures.within,
  short_within RATE_REACH c.rate_at.result (omega arith) c.rate_at.ensures.within,
)
