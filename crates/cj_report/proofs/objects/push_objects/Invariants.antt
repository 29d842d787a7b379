use Rattle.std.proofs.Common.{◌≡◌, ◌++◌, map, take}
use Rattle.cj_track.specs.Tracks.{plain_track}
use Rattle.cj_report.specs.Report.{object_lines, numbered}
use Rattle.cj_report.proofs.objects.push_objects.Given as goal

abbrev pub invariant-loop-place : goal.invariant-loop-place
invariant-loop-place l =
    l.text.items
    ≡ l.fn.text.items ++ numbered (object_lines l.sizes l.primaries l.with_coverage l.window.first.micros l.window.last.micros) 1 (map plain_track (take l.place l.tracks))
