use Rattle.std.proofs.Common.{◌≡◌, ◌+◌, ◌-◌, ◌++◌, map}
use Rattle.cj_hermite.specs.CommonRuns.{run_of}
use Rattle.cj_track.specs.Tracks.{plain_track}
use Rattle.cj_coverage.specs.Coverage.{covered_spans}
use Rattle.cj_coverage.proofs.spans.covered_spans.Given as goal

abbrev pub invariant-loop-span : goal.invariant-loop-span
invariant-loop-span l =
    let e = plain_track l.track in
    map run_of l.spans.items ++ covered_spans e l.from.micros l.window.last.micros ≡ covered_spans e l.window.first.micros l.window.last.micros

abbrev pub decreases-loop-span : goal.decreases-loop-span
decreases-loop-span l = l.window.last.micros + 1 - l.from.micros
