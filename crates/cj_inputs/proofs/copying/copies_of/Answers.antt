use Rattle.std.proofs.Common.{List, length, ap, arith}
use Rattle.std.proofs.lemmas.List.{length-map}
use Rattle.cj_track.specs.PlainTracks.{PlainTrack}
use Rattle.cj_track.specs.Tracks.{plain_track}
use Rattle.cj_inputs.proofs.CopyLemmas.{copies_all, copies_more}
use Rattle.cj_inputs.proofs.copying.copies_of.Goals as goal

pub loop-track-preserved : goal.loop-track-preserved
loop-track-preserved c =
    copies_more plain_track c.loop-track.track-index c.args.tracks.now c.loop-track.copies.items c.push.new.self.items c.track-item.result
    c.in_ok-copy_of.field-0 c.loop-track-test.true c.track-item.is c.in_ok-copy_of.ensures c.in_ok-push.ensures.items c.loop-track.invariant

pub returns-clause-value : goal.returns-clause-value
returns-clause-value c = copies_all plain_track c.loop-track.track-index c.args.tracks.now c.loop-track.copies.items c.loop-track-test.false c.loop-track.invariant

pub returns-clause-many : goal.returns-clause-many
returns-clause-many c =
    let copies = c.loop-track.copies.items in
    let tracks = c.args.tracks.now in
    omega (arith, ap (λ (ts : List PlainTrack). length ts) (returns-clause-value c), length-map copies plain_track, length-map tracks plain_track)
