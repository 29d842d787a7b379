use Rattle.std.proofs.Common.{◌-◌, take, drop, length, map, fold}
use Rattle.std.specs.Prelude.{min, max}
use Rattle.cj_track.specs.Tracks.{plain_track}
use Rattle.cj_inputs.specs.Windows.{start_of, stop_of}
use Rattle.cj_inputs.proofs.WindowLemmas.{folded_more}
use Rattle.cj_inputs.proofs.window.useable_window.Goals as goal

pub loop-track-preserved : goal.loop-track-preserved
loop-track-preserved c =
    let others = take (length c.args.tracks.now - 1) (drop 1 c.args.tracks.now) in
    let i = c.loop-track.track-index in
    let own = c.useable_span-own in
    let first = fold min c.useable_span-useable.result.first.micros (map start_of (map plain_track others)) in
    let last = fold max c.useable_span-useable.result.last.micros (map stop_of (map plain_track others)) in
    record {
      first = folded_more min start_of c.loop-track.useable.first.micros own.result.first.micros c.earlier.result.micros first others i c.track-item.result c.loop-track-test.true c.track-item.is
          own.ensures.first c.earlier.ensures c.loop-track.invariant.first;
      last = folded_more max stop_of c.loop-track.useable.last.micros own.result.last.micros c.later.result.micros last others i c.track-item.result c.loop-track-test.true c.track-item.is
          own.ensures.last c.later.ensures c.loop-track.invariant.last;
    }
