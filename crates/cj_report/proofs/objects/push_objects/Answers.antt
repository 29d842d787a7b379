use Rattle.std.proofs.Common.{arith, rules}
use Rattle.cj_track.specs.Tracks.{plain_track}
use Rattle.cj_report.specs.Report.{object_lines}
use Rattle.cj_report.proofs.NumberLemmas.{numbered_step}
use Rattle.cj_report.proofs.objects.push_objects.Goals as goal

pub loop-place-preserved : goal.loop-place-preserved
loop-place-preserved c =
    numbered_step (object_lines c.args.sizes.now c.args.primaries.now c.args.with_coverage c.args.window.first.micros c.args.window.last.micros) plain_track c.args.tracks.now c.loop-place.place
    c.index-tracks-place.result c.args.text.now.items c.loop-place.text.items c.push_object.new.text.items
    (omega arith) (search rules) c.loop-place.invariant c.in_ok-push_object.ensures
