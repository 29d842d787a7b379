use Rattle.std.proofs.Common.{◌∙◌}
use Rattle.std.specs.Prelude.{slice_get}
use Rattle.cj_hermite.proofs.PieceLemmas.{pieces_through, at_place, spans, curve_if}
use Rattle.cj_hermite.proofs.finding.found_piece.Goals as goal

pub returns-clause-nodes : goal.returns-clause-nodes
returns-clause-nodes c =
    let segments = c.args.track.now.segments in
    let s = c.found_segment.result.now in
    spans s.first.micros s.last.micros c.piece_of.result (slice_get (pieces_through segments) c.args.found.index)
    (at_place segments c.args.found s c.requires c.found_segment.ensures.is ∙ c.piece_of.ensures.value)

pub returns-clause-curve : goal.returns-clause-curve
returns-clause-curve c = curve_if c.piece_of.result _ (returns-clause-nodes c)
