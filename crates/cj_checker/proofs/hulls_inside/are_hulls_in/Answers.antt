use Rattle.std.proofs.Common.{◌+◌, ◌&&◌, ◌∙◌, Bool, ap, sym, arith}
use Rattle.std.specs.List.{list_all}
use Rattle.cj_track.specs.Tracks.{plain_track}
use Rattle.cj_bezier.specs.Hulls.{axes_of}
use Rattle.cj_bezier.specs.Parts.{hulls_of}
use Rattle.cj_case.specs.Boxes.{plain_box}
use Rattle.cj_checker.specs.Tests.{is_hull_in}
use Rattle.cj_checker.proofs.HullLemmas.{first_met, next_met, all_met, last_met}
use Rattle.cj_checker.proofs.hulls_inside.are_hulls_in.Goals as goal

pub loop-part-init : goal.loop-part-init
loop-part-init c =
    let part = c.in_ok-part.part in
    let is = c.in_ok-part.ensures in
    record {
      walks = is.walks;
      met = first_met (is_hull_in (plain_box c.args.area.now)) (plain_track c.args.course.now.track.now) c.args.ticks.first.micros part.last.micros c.args.ticks.last.micros (axes_of part.hull.points) is.within is.hulls;
    }

pub loop-part-preserved : goal.loop-part-preserved
loop-part-preserved c =
    let part = c.in-Some.next in
    let is = c.in-Some.ensures in
    let fits = is_hull_in (plain_box c.args.area.now) in
    let passes = sym c.if-not-inside.ensures in
    record {
      walks = is.walks;
      met = next_met fits (plain_track c.args.course.now.track.now) c.args.ticks.first.micros c.loop-part.part.last.micros part.last.micros c.args.ticks.last.micros
          (axes_of c.loop-part.part.hull.points) (axes_of part.hull.points) c.loop-part.invariant.met passes is.within is.hulls;
    }

pub returns-in_default-clause-value : goal.returns-in_default-clause-value
returns-in_default-clause-value c =
    let fits = is_hull_in (plain_box c.args.area.now) in
    let passes = sym c.if-not-inside.ensures in
    all_met fits (plain_track c.args.course.now.track.now) c.args.ticks.first.micros c.loop-part.part.last.micros c.args.ticks.last.micros
    (axes_of c.loop-part.part.hull.points) c.loop-part.invariant.met passes c.in_default.ensures.none

pub returns-clause-value : goal.returns-clause-value
returns-clause-value c =
    last_met (is_hull_in (plain_box c.args.area.now)) (plain_track c.args.course.now.track.now) c.args.ticks.first.micros c.loop-part.part.last.micros c.args.ticks.last.micros
    (axes_of c.loop-part.part.hull.points) c.is_hull_in-last_inside.result c.loop-part.invariant.met c.is_hull_in-last_inside.ensures c.loop-part-test.false

pub returns-then-not-inside-clause-value : goal.returns-then-not-inside-clause-value
returns-then-not-inside-clause-value c =
    let fits = is_hull_in (plain_box c.args.area.now) in
    let behind = hulls_of (plain_track c.args.course.now.track.now) (c.loop-part.part.last.micros + 1) c.args.ticks.last.micros in
    ap (λ (b : Bool). b && list_all fits behind) c.if-not-inside.ensures ∙ sym c.loop-part.invariant.met.rest

pub part_in-requires-in-loop-part : goal.part_in-requires-in-loop-part
part_in-requires-in-loop-part c = record { walks = c.loop-part.invariant.walks; inside = c.requires.inside }

pub loop-part-smaller : goal.loop-part-smaller
loop-part-smaller c = omega (arith, c.in-Some.ensures.later, c.in-Some.ensures.within)
