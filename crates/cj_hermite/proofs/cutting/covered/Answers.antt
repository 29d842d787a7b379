use Rattle.std.proofs.Common.{◌∙◌, sym, arith}
use Rattle.std.specs.Prelude.{slice_get}
use Rattle.cj_track.specs.Tracks.{plain_track}
use Rattle.cj_hermite.specs.Pieces.{pieces_of}
use Rattle.cj_hermite.proofs.PieceLemmas.{at_place, is_at}
use Rattle.cj_hermite.proofs.RunLemmas.{own_tick, between_ends}
use Rattle.cj_hermite.proofs.cutting.covered.Goals as goal

pub returns-clause-ticks : goal.returns-clause-ticks
returns-clause-ticks c =
    let segments = c.args.track.now.segments in
    let s = c.found_segment-segment.result.now in
    between_ends s.first.micros s.last.micros c.piece_of-piece.result (record { first = c.later.result; last = c.earlier.result })
    (slice_get (pieces_of (plain_track c.args.track.now)) c.args.found.index)
    (at_place segments c.args.found s c.requires c.found_segment-segment.ensures.is ∙ c.piece_of-piece.ensures.value) c.later.ensures c.earlier.ensures

pub returns-clause-own : goal.returns-clause-own
returns-clause-own c = λ m held before.
    let s = c.found_segment-segment.result.now in
    let piece = c.piece_of-piece.result in
    let found = own_tick m c.args.track.now.segments c.args.found s piece c.found_segment-segment.ensures.kept c.piece_of-piece.ensures.nodes c.requires c.found_segment-segment.ensures.is
    c.piece_of-piece.ensures.value (omega (arith, held.after, c.later.ensures)) (omega (arith, held.after, c.later.ensures)) (omega (arith, before, c.earlier.ensures))
    (omega (arith, before, c.earlier.ensures)) in
    sym (is_at (plain_track c.args.track.now) m c.args.found.index found).index
