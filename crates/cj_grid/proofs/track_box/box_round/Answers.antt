use Rattle.std.proofs.Common.{◌≡◌, ℕ, ◌+◌, ◌∷◌, ap, refl, sym, subst, ◌∙◌}
use Rattle.std.specs.Prelude.{option_map}
use Rattle.cj_track.specs.declared.track.Track.{Track}
use Rattle.cj_track.specs.Tracks.{plain_track}
use Rattle.cj_hermite.specs.declared.box3.Box3.{Box3}
use Rattle.cj_hermite.specs.Walks.{HasNone}
use Rattle.cj_bezier.specs.Hulls.{axes_of}
use Rattle.cj_bezier.specs.Parts.{hulls_of, AreInTime}
use Rattle.cj_bezier.specs.Sizes.{HULL_REACH}
use Rattle.cj_bezier.proofs.BoxRoundLemmas.{box_none}
use Rattle.cj_bezier.proofs.NextPartLemmas.{none_in_time}
use Rattle.cj_bezier.specs.JoinedBoxes.{reaches_of_spans}
use Rattle.cj_grid.proofs.TrackBoxLemmas.{first_part, one_part_more, no_part_more, last_tick, IsBoxOfAll, IsBoxUpTo}
use Rattle.cj_grid.proofs.track_box.box_round.Goals as goal

pub loop-part-init : goal.loop-part-init
loop-part-init c =
    let part = c.in_ok-part.part in
    let is = c.in_ok-part.ensures in
    let first = c.args.window.first.micros in
    let last = c.args.window.last.micros in
    let area = c.box_of_hull-area in
    record {
      area = subst (λ (t : Track). IsBoxUpTo (plain_track t) first part.last.micros last area.result) (sym is.track)
          (first_part (plain_track c.args.walk.now.track.now) first part.last.micros last (axes_of part.hull.points) area.result
          is.within is.hulls is.time area.ensures.value area.ensures.within);
      walks = is.walks;
      track = refl;
      window = refl;
    }

pub loop-part-preserved : goal.loop-part-preserved
loop-part-preserved c =
    let i = c.loop-part.invariant in
    let part = c.in-Some.next in
    let is = c.in-Some.ensures in
    let before = c.loop-part.part.last.micros in
    let last = c.args.window.last.micros in
    record {
      area = one_part_more (plain_track c.part_in.new.self.track.now) c.args.window.first.micros before part.last.micros last (axes_of part.hull.points) c.loop-part.area c.box_of_hull.result c.join_boxes-area.result
          i.area is.within
          (subst (λ (t : Track). hulls_of (plain_track t) (before + 1) last ≡ axes_of part.hull.points ∷ hulls_of (plain_track t) (part.last.micros + 1) last) i.track is.hulls)
          (subst (λ (t : Track). AreInTime (plain_track t) (before + 1) part.last.micros) i.track is.time)
          c.box_of_hull.ensures.value c.box_of_hull.ensures.within c.join_boxes-area.ensures.value (c.join_boxes-area.ensures.within HULL_REACH);
      walks = is.walks;
      track = is.track ∙ i.track;
      window = is.window ∙ i.window;
    }

pub returns-in_err-part-clause-value : goal.returns-in_err-part-clause-value
returns-in_err-part-clause-value c = ap (option_map reaches_of_spans) c.from_residual.ensures ∙ sym (box_none _ _ _ c.in_err-part.ensures.none)

pub returns-in_err-part-clause-time : goal.returns-in_err-part-clause-time
returns-in_err-part-clause-time c = none_in_time _ _ _ c.in_err-part.ensures.none

-- of the same track
of_same : (t u : Track) (from to : ℕ) (b : Box3) → t ≡ u → IsBoxOfAll (plain_track t) from to b → IsBoxOfAll (plain_track u) from to b
of_same t u from to b same = subst (λ (v : Track). IsBoxOfAll (plain_track v) from to b) same

pub returns-after-loop-part-clause-value : goal.returns-after-loop-part-clause-value
returns-after-loop-part-clause-value c = (of_same _ _ _ _ _ c.in_ok-part.ensures.track (last_tick _ _ _ _ _ c.loop-part.invariant.area c.loop-part-test.false)).area

pub returns-after-loop-part-clause-time : goal.returns-after-loop-part-clause-time
returns-after-loop-part-clause-time c = (of_same _ _ _ _ _ c.in_ok-part.ensures.track (last_tick _ _ _ _ _ c.loop-part.invariant.area c.loop-part-test.false)).time

pub returns-in_default-clause-value : goal.returns-in_default-clause-value
returns-in_default-clause-value c =
    let i = c.loop-part.invariant in
    let none = subst (λ (t : Track). HasNone (plain_track t) (c.loop-part.part.last.micros + 1) c.args.window.last.micros) i.track c.in_default.ensures.none in
    (of_same _ _ _ _ _ c.in_ok-part.ensures.track (no_part_more _ _ _ _ _ i.area none)).area

pub returns-in_default-clause-time : goal.returns-in_default-clause-time
returns-in_default-clause-time c =
    let i = c.loop-part.invariant in
    let none = subst (λ (t : Track). HasNone (plain_track t) (c.loop-part.part.last.micros + 1) c.args.window.last.micros) i.track c.in_default.ensures.none in
    (of_same _ _ _ _ _ c.in_ok-part.ensures.track (no_part_more _ _ _ _ _ i.area none)).time

pub returns-after-loop-part-clause-track : goal.returns-after-loop-part-clause-track
returns-after-loop-part-clause-track c = c.loop-part.invariant.track ∙ c.in_ok-part.ensures.track

pub returns-in_default-clause-track : goal.returns-in_default-clause-track
returns-in_default-clause-track c = c.in_default.ensures.track ∙ c.loop-part.invariant.track ∙ c.in_ok-part.ensures.track

pub returns-in_err-part-clause-track : goal.returns-in_err-part-clause-track
returns-in_err-part-clause-track c = c.in_err-part.ensures.track

pub returns-after-loop-part-clause-window : goal.returns-after-loop-part-clause-window
returns-after-loop-part-clause-window c = c.loop-part.invariant.window ∙ c.in_ok-part.ensures.window

pub returns-in_default-clause-window : goal.returns-in_default-clause-window
returns-in_default-clause-window c = c.in_default.ensures.window ∙ c.loop-part.invariant.window ∙ c.in_ok-part.ensures.window

pub returns-in_err-part-clause-window : goal.returns-in_err-part-clause-window
returns-in_err-part-clause-window c = c.in_err-part.ensures.window

pub returns-after-loop-part-clause-walks : goal.returns-after-loop-part-clause-walks
returns-after-loop-part-clause-walks c = c.loop-part.invariant.walks

pub returns-in_default-clause-walks : goal.returns-in_default-clause-walks
returns-in_default-clause-walks c = c.in_default.ensures.walks

pub returns-in_err-part-clause-walks : goal.returns-in_err-part-clause-walks
returns-in_err-part-clause-walks c = c.in_err-part.ensures.walks

pub returns-in_err-part-clause-within : goal.returns-in_err-part-clause-within
returns-in_err-part-clause-within c = rw c.from_residual.ensures tt

pub returns-after-loop-part-clause-within : goal.returns-after-loop-part-clause-within
returns-after-loop-part-clause-within c = c.loop-part.invariant.area.size

pub returns-in_default-clause-within : goal.returns-in_default-clause-within
returns-in_default-clause-within c = c.loop-part.invariant.area.size
