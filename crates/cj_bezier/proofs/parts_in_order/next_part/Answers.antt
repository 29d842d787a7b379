use Rattle.std.proofs.Common.{ℕ, ◌≤◌, ◌∙◌, ap, refl, arith}
use Rattle.std.specs.Prelude.{slice_get}
use Rattle.cj_track.specs.Tracks.{plain_track}
use Rattle.cj_hermite.specs.Interpolant.{Curve}
use Rattle.cj_hermite.specs.Pieces.{pieces_of}
use Rattle.cj_bezier.specs.Hulls.{hull_axes, axes_of}
use Rattle.cj_bezier.proofs.NextPartLemmas.{IsFound, IsPieceOf, piece_of, found_upto, from_node, to_node, hulls_from, run_in_time}
use Rattle.cj_bezier.proofs.parts_in_order.next_part.Goals as goal
use Rattle.cj_bezier.proofs.parts_in_order.next_part.Goals.{In_ok-run}

-- the run that is found is also the first one up to an earlier tick, if not before its own last
found : (c : In_ok-run) → (upto : ℕ) → c.in_ok-run.run'.ticks.last.micros ≤ upto → upto ≤ c.args.last.micros
    → IsPieceOf (plain_track c.args.track.now) c.args.from.micros upto c.in_ok-run.run'.ticks.first.micros c.in_ok-run.run'.ticks.last.micros c.in_ok-run.run'.piece
found c upto low high =
    let e = plain_track c.args.track.now in
    let run = c.in_ok-run.run' in
    let told = c.in_ok-run.ensures in
    let is : IsFound e c.args.from.micros c.args.last.micros run.index run.ticks = record { next = told.run; after = told.after; ended = told.ended; number = told.number; behind = told.later } in
    piece_of e c.args.from.micros upto run.index run.ticks run.piece (slice_get (pieces_of e) run.index) refl told.nodes told.curve
    (found_upto e c.args.from.micros upto c.args.last.micros run.index run.ticks low high is)

pub hull_ready-requires : goal.hull_ready-requires
hull_ready-requires c =
    let e = plain_track c.args.track.now in
    let run = c.in_ok-run.run' in
    let next = c.in_ok-run.ensures.run in
    let is = found (goal.at.hull_ready-requires c).In_ok-run c.args.last.micros next.within (omega arith) in
    let start = ap (λ (k : Curve). k.start) c.ready-piece.ensures in
    let span = ap (λ (k : Curve). k.span) c.ready-piece.ensures in
    let low = from_node e c.args.from.micros c.args.last.micros run.ticks.first.micros run.ticks.last.micros run.piece is in
    let high = to_node e c.args.from.micros c.args.last.micros run.ticks.first.micros run.ticks.last.micros run.piece is in
    let order = is.run.some in
    record { order = order; after = omega (arith, start, low); before = omega (arith, start, span, high, low, order) }

pub returns-clause-first : goal.returns-clause-first
returns-clause-first c upto low high =
    let e = plain_track c.args.track.now in
    let run = c.in_ok-run.run' in
    let is = found (goal.at.returns-clause-first c).In_ok-run upto low high in
    hulls_from e c.args.from.micros upto run.ticks.first.micros run.ticks.last.micros is.index is.plain (axes_of c.hull_ready.result.points) is.run
    (c.hull_ready.ensures.value ∙ ap (λ (d : Curve). hull_axes d run.ticks.first.micros run.ticks.last.micros) (c.ready-piece.ensures ∙ is.curve))

pub returns-clause-time : goal.returns-clause-time
returns-clause-time c =
    let run = c.in_ok-run.run' in
    let next = c.in_ok-run.ensures.run in
    let is = found (goal.at.returns-clause-time c).In_ok-run c.args.last.micros next.within (omega arith) in
    run_in_time (plain_track c.args.track.now) c.args.from.micros c.args.last.micros run.ticks.first.micros run.ticks.last.micros is.index is.plain is.run
