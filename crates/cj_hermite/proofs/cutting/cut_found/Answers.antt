use Rattle.std.proofs.Common.{◌≡◌, ◌≢◌, ◌-◌, Some, refl, arith}
use Rattle.cj_base.specs.declared.tick.Window.{Window}
use Rattle.cj_track.specs.Tracks.{plain_track}
use Rattle.cj_hermite.specs.Pieces.{piece_at}
use Rattle.cj_hermite.proofs.RunLemmas.{run_whole, run_less, run_none, run_other, ended_whole, ended_less, ends_covered, holds_cut, not_at}
use Rattle.cj_hermite.proofs.cutting.cut_found.Goals as goal

pub returns-then-last-first-clause-none : goal.returns-then-last-first-clause-none
returns-then-last-first-clause-none c =
    let e = plain_track c.args.track.now in
    let run : Window = record { first = c.later-first.result; last = c.earlier-last.result } in
    run_none c.args.found.index e c.args.range c.covered-covered.result run (record { ticks = c.covered-covered.ensures.ticks; own = c.covered-covered.ensures.own }) (record { first = c.later-first.ensures; last = c.earlier-last.ensures }) c.if-last-first.true

pub returns-then-is_at-clause-run : goal.returns-then-is_at-clause-run
returns-then-is_at-clause-run c =
    let e = plain_track c.args.track.now in
    let run : Window = record { first = c.later-first.result; last = c.earlier-last.result } in
    let last : piece_at e c.earlier-last.result.micros ≡ Some c.args.found.index = c.is_at.ensures.0 c.if-is_at.true in
    run_whole c.args.found.index e c.args.range c.covered-covered.result run (record { ticks = c.covered-covered.ensures.ticks; own = c.covered-covered.ensures.own }) (record { first = c.later-first.ensures; last = c.earlier-last.ensures }) c.if-last-first.false last

pub returns-then-last-first-2-clause-none : goal.returns-then-last-first-2-clause-none
returns-then-last-first-2-clause-none c =
    let e = plain_track c.args.track.now in
    let run : Window = record { first = c.later-first.result; last = c.earlier-last.result } in
    let other : piece_at e c.earlier-last.result.micros ≢ Some c.args.found.index = not_at c.is_at.result _ c.is_at.ensures.1 c.if-is_at.false in
    run_other c.args.found.index e c.args.range c.covered-covered.result run (record { ticks = c.covered-covered.ensures.ticks; own = c.covered-covered.ensures.own }) (record { first = c.later-first.ensures; last = c.earlier-last.ensures }) c.if-last-first-2.true other

pub returns-clause-run : goal.returns-clause-run
returns-clause-run c =
    let e = plain_track c.args.track.now in
    let run : Window = record { first = c.later-first.result; last = c.earlier-last.result } in
    let other : piece_at e c.earlier-last.result.micros ≢ Some c.args.found.index = not_at c.is_at.result _ c.is_at.ensures.1 c.if-is_at.false in
    run_less c.args.found.index e c.args.range c.covered-covered.result run _ (record { ticks = c.covered-covered.ensures.ticks; own = c.covered-covered.ensures.own }) (record { first = c.later-first.ensures; last = c.earlier-last.ensures }) (omega arith) other refl refl

pub returns-then-is_at-clause-covered : goal.returns-then-is_at-clause-covered
returns-then-is_at-clause-covered c =
    ends_covered c.later-first.result.micros c.earlier-last.result.micros c.covered-covered.result _ c.covered-covered.ensures.ticks
    (holds_cut c.covered-covered.result c.args.range _ _ _ c.later-first.ensures c.earlier-last.ensures (omega arith) c.if-last-first.false)
    (holds_cut c.covered-covered.result c.args.range _ _ _ c.later-first.ensures c.earlier-last.ensures c.if-last-first.false (omega arith))

pub returns-clause-covered : goal.returns-clause-covered
returns-clause-covered c =
    ends_covered c.later-first.result.micros (c.earlier-last.result.micros - 1) c.covered-covered.result _ c.covered-covered.ensures.ticks
    (holds_cut c.covered-covered.result c.args.range _ _ _ c.later-first.ensures c.earlier-last.ensures (omega arith) c.if-last-first.false)
    (holds_cut c.covered-covered.result c.args.range _ _ _ c.later-first.ensures c.earlier-last.ensures (omega arith) (omega arith))

pub returns-then-is_at-clause-ended : goal.returns-then-is_at-clause-ended
returns-then-is_at-clause-ended c =
    let e = plain_track c.args.track.now in
    let run : Window = record { first = c.later-first.result; last = c.earlier-last.result } in
    ended_whole c.args.found.index e c.args.range c.covered-covered.result run (record { ticks = c.covered-covered.ensures.ticks; own = c.covered-covered.ensures.own }) (record { first = c.later-first.ensures; last = c.earlier-last.ensures })

pub returns-clause-ended : goal.returns-clause-ended
returns-clause-ended c less =
    let e = plain_track c.args.track.now in
    let run : Window = record { first = c.later-first.result; last = c.earlier-last.result } in
    let other : piece_at e c.earlier-last.result.micros ≢ Some c.args.found.index = not_at c.is_at.result _ c.is_at.ensures.1 c.if-is_at.false in
    ended_less c.args.found.index e c.args.range c.covered-covered.result run (record { ticks = c.covered-covered.ensures.ticks; own = c.covered-covered.ensures.own }) (record { first = c.later-first.ensures; last = c.earlier-last.ensures }) (omega arith) other
