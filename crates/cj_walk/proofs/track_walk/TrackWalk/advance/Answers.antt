use Rattle.std.proofs.Common.{◌≡◌, ℕ, ◌↔◌, length, rules, subst, arith}
use Rattle.cj_track.specs.Tracks.{plain_track}
use Rattle.cj_bezier.specs.Gaps.{PlainGap, terms_of}
use Rattle.cj_bezier.specs.Hulls.{axes_of}
use Rattle.cj_bezier.specs.Shells.{IsInner, IsOuter}
use Rattle.cj_bezier.proofs.ShellLemmas.{outer_of_hull}
use Rattle.cj_walk.proofs.JoinedGapLemmas.{one_part_more}
use Rattle.cj_walk.proofs.track_walk.TrackWalk.advance.Goals as goal

pub returns-clause-walks : goal.returns-clause-walks
returns-clause-walks c =
    let walk = c.args.self.now in
    let part = c.in-Some.part in
    let is = c.in-Some.ensures in
    let four : length part.hull.points ≡ 4 = search rules in
    let g = terms_of walk.gap.terms in
    let k = terms_of c.join_gaps-self.result.terms in
    record {
      begun = omega (arith, c.requires.begun, c.requires.later);
      later = is.later;
      first = is.first;
      round = one_part_more (plain_track walk.track.now) walk.window.first.micros walk.part.last.micros part.last.micros walk.window.last.micros (axes_of part.hull.points) g k
          c.requires.round is.later is.within (is.first walk.window.last.micros is.within (omega arith)) is.time (outer_of_hull part.hull.points four part.hull.within)
          (subst (λ (t : PlainGap). (r : ℕ) → IsInner k r ↔ (IsInner g r × IsInner t r)) c.gap_origin.ensures c.join_gaps-self.ensures.inner)
          (subst (λ (t : PlainGap). (r : ℕ) → IsOuter k r ↔ (IsOuter g r × IsOuter t r)) c.gap_origin.ensures c.join_gaps-self.ensures.outer);
    }

pub returns-then-self-clause-walks : goal.returns-then-self-clause-walks
returns-then-self-clause-walks c = c.requires

pub returns-in_default-clause-ended : goal.returns-in_default-clause-ended
returns-in_default-clause-ended c _ = c.in_default.ensures.none

pub returns-clause-further : goal.returns-clause-further
returns-clause-further c _ = omega (arith, c.in-Some.ensures.later)
