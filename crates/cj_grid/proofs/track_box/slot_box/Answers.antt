use Rattle.std.proofs.Common.{◌≡◌, ℕ, Some, None, ap, refl, sym, ◌∙◌, arith}
use Rattle.std.specs.Prelude.{option_map}
use Rattle.cj_track.specs.Tracks.{plain_track}
use Rattle.cj_hermite.specs.Walks.{HasNone}
use Rattle.cj_bezier.specs.Parts.{AreInTime}
use Rattle.cj_bezier.specs.SlotBoxes.{box_of}
use Rattle.cj_case.specs.Boxes.{plain_box}
use Rattle.cj_bezier.proofs.BoxRoundLemmas.{box_none, none_without, some_with, box_of_parts, box_holds}
use Rattle.cj_bezier.proofs.HullListLemmas.{have_parts}
use Rattle.cj_bezier.specs.JoinedBoxes.{reaches_of_spans}
use Rattle.cj_grid.proofs.TrackBoxLemmas.{at_ends}
use Rattle.cj_grid.proofs.track_box.slot_box.Goals as goal

-- ---- a slot without ticks

pub returns-in_err-ticks-clause-exact : goal.returns-in_err-ticks-clause-exact
returns-in_err-ticks-clause-exact c =
    let before = c.in_err-ticks.ensures.none in
    ap (option_map plain_box) c.from_residual.ensures ∙ sym (box_none _ _ _ (λ m after upto. absurd (omega arith)))

pub returns-in_err-ticks-clause-time : goal.returns-in_err-ticks-clause-time
returns-in_err-ticks-clause-time c m after upto = let before = c.in_err-ticks.ensures.none in absurd (omega arith)

-- ---- a track without a state

pub returns-in_err-area-clause-exact : goal.returns-in_err-area-clause-exact
returns-in_err-area-clause-exact c =
    let e = plain_track c.args.walk.now.track.now in
    ap (option_map plain_box) c.from_residual-in_err-area.ensures
    ∙ at_ends (λ (a b : ℕ). None ≡ box_of e a b) _ _ _ _ c.in_ok-ticks.ensures.first c.in_ok-ticks.ensures.last c.in_err-area.ensures.value

pub returns-in_err-area-clause-none : goal.returns-in_err-area-clause-none
returns-in_err-area-clause-none c =
    let e = plain_track c.args.walk.now.track.now in
    rw c.from_residual-in_err-area.ensures
    (at_ends (HasNone e) _ _ _ _ c.in_ok-ticks.ensures.first c.in_ok-ticks.ensures.last (none_without e _ _ (sym c.in_err-area.ensures.value)))

pub returns-in_err-area-clause-time : goal.returns-in_err-area-clause-time
returns-in_err-area-clause-time c = at_ends (AreInTime (plain_track c.args.walk.now.track.now)) _ _ _ _ c.in_ok-ticks.ensures.first c.in_ok-ticks.ensures.last c.in_err-area.ensures.time

-- ---- the box

pub returns-clause-exact : goal.returns-clause-exact
returns-clause-exact c =
    let e = plain_track c.args.walk.now.track.now in
    let told = c.in_ok-area.ensures in
    ap Some c.by_corners.ensures ∙ at_ends (λ (a b : ℕ). Some (reaches_of_spans c.in_ok-area.area) ≡ box_of e a b) _ _ _ _ c.in_ok-ticks.ensures.first c.in_ok-ticks.ensures.last told.value

pub returns-clause-time : goal.returns-clause-time
returns-clause-time c = at_ends (AreInTime (plain_track c.args.walk.now.track.now)) _ _ _ _ c.in_ok-ticks.ensures.first c.in_ok-ticks.ensures.last c.in_ok-area.ensures.time

pub returns-clause-value : goal.returns-clause-value
returns-clause-value c = box_of_parts (plain_track c.args.walk.now.track.now) _ _ c.by_corners.result (have_parts (plain_track c.args.walk.now.track.now) _ _ (returns-clause-time c)) (sym (returns-clause-exact c))

pub returns-clause-some : goal.returns-clause-some
returns-clause-some c = some_with (plain_track c.args.walk.now.track.now) _ _ (plain_box c.by_corners.result) (sym (returns-clause-exact c))

pub returns-clause-holds : goal.returns-clause-holds
returns-clause-holds c m = box_holds (plain_track c.args.walk.now.track.now) _ _ m (plain_box c.by_corners.result) (returns-clause-time c) (sym (returns-clause-exact c))

pub returns-in_err-ticks-clause-value : goal.returns-in_err-ticks-clause-value
returns-in_err-ticks-clause-value c = rw c.from_residual.ensures tt

pub returns-in_err-area-clause-value : goal.returns-in_err-area-clause-value
returns-in_err-area-clause-value c = rw c.from_residual-in_err-area.ensures tt

pub returns-in_err-ticks-clause-some : goal.returns-in_err-ticks-clause-some
returns-in_err-ticks-clause-some c = rw c.from_residual.ensures tt

pub returns-in_err-area-clause-some : goal.returns-in_err-area-clause-some
returns-in_err-area-clause-some c = rw c.from_residual-in_err-area.ensures tt

pub returns-in_err-ticks-clause-holds : goal.returns-in_err-ticks-clause-holds
returns-in_err-ticks-clause-holds c = rw c.from_residual.ensures tt

pub returns-in_err-area-clause-holds : goal.returns-in_err-area-clause-holds
returns-in_err-area-clause-holds c = rw c.from_residual-in_err-area.ensures tt

pub returns-in_err-ticks-clause-none : goal.returns-in_err-ticks-clause-none
returns-in_err-ticks-clause-none c =
    let before = c.in_err-ticks.ensures.none in
    rw c.from_residual.ensures (λ m after upto. absurd (omega arith))

pub returns-in_err-ticks-clause-track : goal.returns-in_err-ticks-clause-track
returns-in_err-ticks-clause-track c = refl

pub returns-in_err-area-clause-track : goal.returns-in_err-area-clause-track
returns-in_err-area-clause-track c = c.in_err-area.ensures.track

pub returns-clause-track : goal.returns-clause-track
returns-clause-track c = c.in_ok-area.ensures.track

pub returns-in_err-ticks-clause-window : goal.returns-in_err-ticks-clause-window
returns-in_err-ticks-clause-window c = refl

pub returns-in_err-area-clause-window : goal.returns-in_err-area-clause-window
returns-in_err-area-clause-window c = c.in_err-area.ensures.window

pub returns-clause-window : goal.returns-clause-window
returns-clause-window c = c.in_ok-area.ensures.window

pub returns-in_err-ticks-clause-walks : goal.returns-in_err-ticks-clause-walks
returns-in_err-ticks-clause-walks c = c.requires

pub returns-in_err-area-clause-walks : goal.returns-in_err-area-clause-walks
returns-in_err-area-clause-walks c = c.in_err-area.ensures.walks

pub returns-clause-walks : goal.returns-clause-walks
returns-clause-walks c = c.in_ok-area.ensures.walks
