use Rattle.std.proofs.Common.{◌∙◌, ◌++◌, [], ◌∷◌, ℕ, List, Bor, length, map, take, ap, sym, arith}
use Rattle.std.proofs.lemmas.List.{length-map, map_more, map_push, take_all}
use Rattle.std.proofs.lemmas.Result.{IfOk-from_err}
use Rattle.std.proofs.lemmas.Simd.{map-map}
use Rattle.cj_sizes.specs.Sizes.{radius_of, sizes_of}
use Rattle.cj_track.specs.PlainTracks.{PlainTrack}
use Rattle.cj_track.specs.Tracks.{plain_track}
use Rattle.cj_track.specs.declared.track.Track.{Track}
use Rattle.cj_inputs.proofs.object_sizes.sizes_of_tracks.Goals as goal

abbrev lent : Bor (List ℕ) → List ℕ
lent id = id.now

abbrev id_of : Track → List ℕ
id_of track = track.id

pub loop-track-preserved : goal.loop-track-preserved
loop-track-preserved c =
    let track = c.track-item.result in
    let i = c.loop-track.track-index in
    let tracks = c.args.tracks.now in
    ap (map lent) c.in_ok-push.ensures.items ∙ map_push lent c.loop-track.ids.items _
    ∙ ap (λ (ids : List (List ℕ)). ids ++ c.as_slice.result.now ∷ []) c.loop-track.invariant
    ∙ ap (λ (id : List ℕ). map id_of (take i tracks) ++ id ∷ []) (c.as_slice.ensures ∙ ap id_of c.track-item.is)
    ∙ sym (map_more id_of tracks i track c.loop-track-test.true)

pub returns-clause-value : goal.returns-clause-value
returns-clause-value c =
    let tracks = c.args.tracks.now in
    let radius : List ℕ → ℕ = radius_of (sizes_of c.args.lines.now) in
    let radius_of_track : PlainTrack → ℕ = λ e. radius e.id in
    c.new.ensures ∙ c.in_ok-radii.ensures.value
    ∙ ap (λ (ids : List (Bor (List ℕ))). map (λ (id : Bor (List ℕ)). radius id.now) ids) c.deref.ensures.value
    ∙ sym (map-map radius lent c.loop-track.ids.items)
    ∙ ap (map radius) (c.loop-track.invariant ∙ ap (map id_of) (take_all c.loop-track.track-index tracks (omega arith)))
    ∙ map-map radius id_of tracks
    ∙ sym (map-map radius_of_track plain_track tracks)

pub returns-clause-many : goal.returns-clause-many
returns-clause-many c =
    let tracks = c.args.tracks.now in
    ap length (returns-clause-value c) ∙ length-map (map plain_track tracks) (λ e. radius_of (sizes_of c.args.lines.now) e.id) ∙ length-map tracks plain_track

pub loop-track-init : goal.loop-track-init
loop-track-init c = ap (map lent) c.in_ok-ids.ensures.items

pub returns-in_err-ids : goal.returns-in_err-ids
returns-in_err-ids c =
    let failed = c.from_residual.ensures.0 in
    record { value = IfOk-from_err c.from_residual.result _ failed; many = IfOk-from_err c.from_residual.result _ failed }

pub returns-in_err-push : goal.returns-in_err-push
returns-in_err-push c =
    let failed = c.from_residual-in_err-push.ensures.0 in
    record { value = IfOk-from_err c.from_residual-in_err-push.result _ failed; many = IfOk-from_err c.from_residual-in_err-push.result _ failed }

pub returns-in_err-radii : goal.returns-in_err-radii
returns-in_err-radii c =
    let failed = c.from_residual-in_err-radii.ensures.0 in
    record { value = IfOk-from_err c.from_residual-in_err-radii.result _ failed; many = IfOk-from_err c.from_residual-in_err-radii.result _ failed }
