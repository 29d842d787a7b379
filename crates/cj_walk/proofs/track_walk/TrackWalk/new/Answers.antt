use Rattle.std.proofs.Common.{◌≡◌, length, refl, rules, arith}
use Rattle.cj_track.specs.Tracks.{plain_track}
use Rattle.cj_bezier.specs.Gaps.{terms_of}
use Rattle.cj_bezier.specs.Hulls.{axes_of}
use Rattle.cj_bezier.proofs.ShellLemmas.{outer_of_hull}
use Rattle.cj_walk.specs.JoinedGaps.{IsGapUpTo}
use Rattle.cj_walk.proofs.JoinedGapLemmas.{first_part}
use Rattle.cj_walk.proofs.track_walk.TrackWalk.new.Goals as goal

round : (c : goal.After-result-1) → IsGapUpTo (plain_track c.args.track.now) c.args.window.first.micros c.in_ok-part.part.last.micros c.args.window.last.micros (terms_of c.gap_origin-gap.result.terms)
round c =
    let part = c.in_ok-part.part in
    let is = c.in_ok-part.ensures in
    let four : length part.hull.points ≡ 4 = search rules in
    first_part (plain_track c.args.track.now) c.args.window.first.micros part.last.micros c.args.window.last.micros (axes_of part.hull.points) (terms_of c.gap_origin-gap.result.terms)
    is.later is.within (is.first c.args.window.last.micros is.within (omega arith)) is.time (outer_of_hull part.hull.points four part.hull.within) c.gap_origin-gap.ensures

pub returns-clause-some : goal.returns-clause-some
returns-clause-some c = (round c).some

pub returns-clause-walks : goal.returns-clause-walks
returns-clause-walks c = let is = c.in_ok-part.ensures in record { begun = omega arith; later = is.later; first = is.first; round = round c }

pub returns-in_err-part-clause-none : goal.returns-in_err-part-clause-none
returns-in_err-part-clause-none c = rw c.from_residual.ensures c.in_err-part.ensures.none

pub returns-in_err-part-clause-some : goal.returns-in_err-part-clause-some
returns-in_err-part-clause-some c = rw c.from_residual.ensures tt

pub returns-in_err-part-clause-track : goal.returns-in_err-part-clause-track
returns-in_err-part-clause-track c = rw c.from_residual.ensures tt

pub returns-in_err-part-clause-walks : goal.returns-in_err-part-clause-walks
returns-in_err-part-clause-walks c = rw c.from_residual.ensures tt

pub returns-in_err-part-clause-window : goal.returns-in_err-part-clause-window
returns-in_err-part-clause-window c = rw c.from_residual.ensures tt

pub returns-clause-track : goal.returns-clause-track
returns-clause-track c = refl

pub returns-clause-window : goal.returns-clause-window
returns-clause-window c = refl

pub returns-clause-none : goal.returns-clause-none
returns-clause-none c = tt
