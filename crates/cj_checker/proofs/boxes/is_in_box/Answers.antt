use Rattle.std.proofs.Common.{◌∙◌, ◌&&◌, arith}
use Rattle.std.specs.List.{list_all}
use Rattle.cj_track.specs.Tracks.{plain_track}
use Rattle.cj_bezier.specs.Parts.{hulls_of}
use Rattle.cj_case.specs.Boxes.{plain_box}
use Rattle.cj_checker.specs.Tests.{has_state_between, is_hull_in}
use Rattle.cj_checker.proofs.HullLemmas.{met_there}
use Rattle.cj_checker.proofs.boxes.is_in_box.Goals as goal

pub are_hulls_in-requires-clause-inside : goal.are_hulls_in-requires-clause-inside
are_hulls_in-requires-clause-inside c = omega (arith, c.in-Some.ensures.last)

pub returns-in-Some-clause-value : goal.returns-in-Some-clause-value
returns-in-Some-clause-value c =
    let e = plain_track c.args.course.now.track.now in
    let ticks = c.in-Some.ticks in
    let fits = is_hull_in (plain_box c.args.line.now.area) in
    let met = c.are_hulls_in.ensures in
    let first = c.in-Some.ensures.first in
    let last = c.in-Some.ensures.last in
    c.eq.ensures ∙ (met_there fits e ticks.first.micros ticks.last.micros c.are_hulls_in.result met.none met.some met.value
    ∙ (λ j. has_state_between e (first j) (last j) && list_all fits (hulls_of e (first j) (last j))))
