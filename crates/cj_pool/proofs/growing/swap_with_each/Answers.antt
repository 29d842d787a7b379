use Rattle.std.proofs.Common.{get_or, arith}
use Rattle.std.proofs.lemmas.List.{get_or_default}
use Rattle.cj_pool.proofs.StationLemmas.{grown_begins, grown_step, grown_stations, grown_unused, grown_unopened, next_begins}
use Rattle.std.proofs.lemmas.Result.{err_from_is_err_and}
use Rattle.cj_pool.proofs.growing.swap_with_each.Goals as goal

pub loop-earlier-init : goal.loop-earlier-init
loop-earlier-init g c = grown_begins g.K.Run.workers c.args.stations.now c.args.next.now c.requires.stations
    (next_begins g.K.Run.workers _ _ c.args.next.now c.requires.number c.requires.own.0 c.requires.own.1 c.requires.alone.0 c.requires.alone.1)

pub loop-earlier-preserved : goal.loop-earlier-preserved
loop-earlier-preserved g c =
    let l = c.loop-earlier in
    let e = c.in_ok-swap_passes.ensures in
    let old = get_or l.stations l.earlier-index c.earlier-item.result in
    let is = get_or_default l.stations l.earlier-index c.earlier-item.result old (omega arith) in
    grown_step g.K.Run.workers l.earlier-index c.args.stations.now l.stations l.next c.swap_passes.new.later old c.swap_passes.new.earlier
    l.invariant c.requires.few (omega arith) is
    (record {
      number = e.numbers.0;
      next_number = e.numbers.1;
      below = e.below;
      above = e.above;
      gave = e.parts.0;
      next_gave = e.parts.1;
      to_next = e.to_later.0;
      ready = e.to_later.1;
      to_earlier = e.to_earlier.0;
      next_ready = e.to_earlier.1;
      taken = e.taken.0;
      next_taken = e.taken.1;
    })

pub returns-clause-stations : goal.returns-clause-stations
returns-clause-stations g c =
    grown_stations g.K.Run.workers c.loop-earlier.earlier-index c.args.stations.now c.loop-earlier.stations c.loop-earlier.next
    c.loop-earlier.invariant (omega arith)

pub returns-clause-unused : goal.returns-clause-unused
returns-clause-unused g c = grown_unused g.K.Run.workers c.loop-earlier.earlier-index c.args.stations.now c.loop-earlier.stations c.loop-earlier.next
    c.loop-earlier.invariant

pub returns-clause-unopened : goal.returns-clause-unopened
returns-clause-unopened g c = grown_unopened g.K.Run.workers c.loop-earlier.earlier-index c.args.stations.now c.loop-earlier.stations
    c.loop-earlier.next c.loop-earlier.invariant

pub returns-in_err-swap_passes-clause-stations : goal.returns-in_err-swap_passes-clause-stations
returns-in_err-swap_passes-clause-stations g c = rw (err_from_is_err_and c.from_residual.result c.from_residual.ensures.1).1 tt

pub returns-in_err-swap_passes-clause-unopened : goal.returns-in_err-swap_passes-clause-unopened
returns-in_err-swap_passes-clause-unopened g c = rw (err_from_is_err_and c.from_residual.result c.from_residual.ensures.1).1 tt

pub returns-in_err-swap_passes-clause-unused : goal.returns-in_err-swap_passes-clause-unused
returns-in_err-swap_passes-clause-unused g c = rw (err_from_is_err_and c.from_residual.result c.from_residual.ensures.1).1 tt
