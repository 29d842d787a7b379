use Rattle.std.proofs.Common.{◌≤◌, ◌∙◌, arith}
use Rattle.cj_track.specs.Tracks.{plain_track}
use Rattle.cj_hermite.proofs.WalkLemmas.{no_left, no_right, common_later, common_here}
use Rattle.cj_hermite.proofs.common_runs.next_common_pieces.Goals as goal

pub returns-in_err-x : goal.returns-in_err-x
returns-in_err-x c =
    let none = c.loop-x.invariant.same
    ∙ no_left (plain_track c.args.a.now) (plain_track c.args.b.now) c.loop-x.at.micros c.args.last.micros c.in_err-x.ensures.run in
    rw c.from_residual.ensures (record { none = none; run = tt; first = tt; second = tt; from = tt; some = tt; to = tt })

pub returns-in_err-y : goal.returns-in_err-y
returns-in_err-y c =
    let none = c.loop-x.invariant.same
    ∙ no_right (plain_track c.args.a.now) (plain_track c.args.b.now) c.loop-x.at.micros c.args.last.micros c.in_err-y.ensures.run in
    rw c.from_residual-in_err-y.ensures (record { none = none; run = tt; first = tt; second = tt; from = tt; some = tt; to = tt })

pub returns-then-first-end-clause-run : goal.returns-then-first-end-clause-run
returns-then-first-end-clause-run c =
    let from : c.loop-x.at.micros ≤ c.later-first.result.micros = omega (arith, c.in_ok-x.ensures.after, c.later-first.ensures) in
    c.loop-x.invariant.same
    ∙ common_here (plain_track c.args.a.now) (plain_track c.args.b.now) c.loop-x.at.micros c.args.last.micros c.later-first.result.micros c.earlier-end.result.micros c.in_ok-x.x.ticks c.in_ok-y.y.ticks
    c.in_ok-x.ensures.run c.in_ok-y.ensures.run c.later-first.ensures c.earlier-end.ensures from c.if-first-end.true

pub returns-then-first-end-clause-first : goal.returns-then-first-end-clause-first
returns-then-first-end-clause-first c =
    c.in_ok-x.ensures.piece c.later-first.result.micros (omega (arith, c.later-first.ensures)) (omega (arith, c.earlier-end.ensures, c.if-first-end.true))

pub returns-then-first-end-clause-second : goal.returns-then-first-end-clause-second
returns-then-first-end-clause-second c =
    c.in_ok-y.ensures.piece c.later-first.result.micros (omega (arith, c.later-first.ensures)) (omega (arith, c.earlier-end.ensures, c.if-first-end.true))

pub loop-x-preserved : goal.loop-x-preserved
loop-x-preserved c =
    let i = c.loop-x.invariant in
    let from : c.loop-x.at.micros ≤ c.later-first.result.micros = omega (arith, c.in_ok-x.ensures.after, c.later-first.ensures) in
    record {
      reached = omega (arith, i.reached, from);
      same = i.same
          ∙ common_later (plain_track c.args.a.now) (plain_track c.args.b.now) c.loop-x.at.micros c.args.last.micros c.later-first.result.micros c.earlier-end.result.micros c.in_ok-x.x.ticks c.in_ok-y.y.ticks
          c.in_ok-x.ensures.run c.in_ok-y.ensures.run c.later-first.ensures from;
    }

pub returns-then-first-end-clause-from : goal.returns-then-first-end-clause-from
returns-then-first-end-clause-from c = omega (arith, c.loop-x.invariant.reached, c.in_ok-x.ensures.after, c.later-first.ensures)

pub returns-then-first-end-clause-some : goal.returns-then-first-end-clause-some
returns-then-first-end-clause-some c = c.if-first-end.true

pub returns-then-first-end-clause-to : goal.returns-then-first-end-clause-to
returns-then-first-end-clause-to c = omega (arith, c.in_ok-x.ensures.run.within, c.earlier-end.ensures)
