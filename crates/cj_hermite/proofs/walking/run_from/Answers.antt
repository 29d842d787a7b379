use Rattle.std.proofs.Common.{refl, ◌∙◌, arith}
use Rattle.cj_base.specs.declared.tick.Window.{Window}
use Rattle.cj_track.specs.Tracks.{plain_track}
use Rattle.cj_hermite.specs.Interpolant.{curve_of}
use Rattle.cj_hermite.proofs.NextRunLemmas.{here_in, begins_in, next_is, curve_of_number}
use Rattle.cj_hermite.proofs.walking.run_from.Goals as goal

pub returns-clause-run : goal.returns-clause-run
returns-clause-run c =
    let told = c.in_ok-first.ensures in
    let range : Window = record { first = c.in_ok-first.first; last = c.args.last } in
    next_is (plain_track c.args.track.now) c.in_ok-first.found.index range c.in_ok-ticks.ticks c.in_ok-ticks.ensures.run c.args.from.micros c.args.last.micros told.state told.number (omega arith) refl
    c.in_ok-ticks.ensures.ended

pub returns-clause-after : goal.returns-clause-after
returns-clause-after c =
    let range : Window = record { first = c.in_ok-first.first; last = c.args.last } in
    omega (arith, begins_in (plain_track c.args.track.now) c.in_ok-first.found.index range c.in_ok-ticks.ticks c.in_ok-ticks.ensures.run, c.in_ok-first.ensures.state.later)

pub returns-clause-piece : goal.returns-clause-piece
returns-clause-piece c m after before =
    let e = plain_track c.args.track.now in
    let index = c.in_ok-first.found.index in
    let range : Window = record { first = c.in_ok-first.first; last = c.args.last } in
    curve_of_number e m index (curve_of c.found_piece.result) (here_in e index range c.in_ok-ticks.ticks c.in_ok-ticks.ensures.run m after before) c.found_piece.ensures.curve

pub cut_found-requires : goal.cut_found-requires
cut_found-requires c = c.in_ok-first.ensures.place

pub found_piece-requires : goal.found_piece-requires
found_piece-requires c = c.in_ok-first.ensures.place

pub returns-clause-number : goal.returns-clause-number
returns-clause-number c =
    let range : Window = record { first = c.in_ok-first.first; last = c.args.last } in
    let run = c.in_ok-ticks.ensures.run in
    here_in (plain_track c.args.track.now) c.in_ok-first.found.index range c.in_ok-ticks.ticks run c.in_ok-ticks.ticks.last.micros run.some (omega arith)

pub returns-clause-ended : goal.returns-clause-ended
returns-clause-ended c less m after same = c.in_ok-ticks.ensures.ended less m after (same ∙ returns-clause-number c)

pub returns-clause-later : goal.returns-clause-later
returns-clause-later c m number le at =
    let range : Window = record { first = c.in_ok-first.first; last = c.args.last } in
    let run = c.in_ok-ticks.ensures.run in
    let begins = begins_in (plain_track c.args.track.now) c.in_ok-first.found.index range c.in_ok-ticks.ticks run in
    c.in_ok-first.ensures.later m number (omega (arith, le, begins, run.some)) at

pub returns-clause-nodes : goal.returns-clause-nodes
returns-clause-nodes c = c.found_piece.ensures.nodes

pub returns-clause-curve : goal.returns-clause-curve
returns-clause-curve c = c.found_piece.ensures.curve

-- ---- where there is no run

pub returns-in_err-first : goal.returns-in_err-first
returns-in_err-first c =
    rw c.from_residual.ensures
    (record { run = λ m low high. c.in_err-first.ensures.state m low; after = tt; ended = tt; number = tt; later = tt; nodes = tt; curve = tt; piece = tt })

pub returns-then-last-first-clause-run : goal.returns-then-last-first-clause-run
returns-then-last-first-clause-run c m low high = c.in_ok-first.ensures.state.none m low (omega (arith, high, c.if-last-first.true))

pub returns-in_err-ticks-clause-after : goal.returns-in_err-ticks-clause-after
returns-in_err-ticks-clause-after c = rw c.from_residual-in_err-ticks.ensures tt

pub returns-in_err-ticks-clause-ended : goal.returns-in_err-ticks-clause-ended
returns-in_err-ticks-clause-ended c = rw c.from_residual-in_err-ticks.ensures tt

pub returns-in_err-ticks-clause-number : goal.returns-in_err-ticks-clause-number
returns-in_err-ticks-clause-number c = rw c.from_residual-in_err-ticks.ensures tt

pub returns-in_err-ticks-clause-later : goal.returns-in_err-ticks-clause-later
returns-in_err-ticks-clause-later c = rw c.from_residual-in_err-ticks.ensures tt

pub returns-in_err-ticks-clause-nodes : goal.returns-in_err-ticks-clause-nodes
returns-in_err-ticks-clause-nodes c = rw c.from_residual-in_err-ticks.ensures tt

pub returns-in_err-ticks-clause-curve : goal.returns-in_err-ticks-clause-curve
returns-in_err-ticks-clause-curve c = rw c.from_residual-in_err-ticks.ensures tt

pub returns-in_err-ticks-clause-piece : goal.returns-in_err-ticks-clause-piece
returns-in_err-ticks-clause-piece c = rw c.from_residual-in_err-ticks.ensures tt
