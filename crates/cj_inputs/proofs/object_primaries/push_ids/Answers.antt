use Rattle.std.proofs.Common.{◌∙◌, ◌++◌, [], ◌∷◌, ℕ, List, map, take, ap, sym, append-nil, append_assoc, arith}
use Rattle.std.proofs.lemmas.List.{map_more, map_push, take_all}
use Rattle.std.proofs.lemmas.Result.{IfOk-from_err}
use Rattle.std.proofs.lemmas.Simd.{map-map}
use Rattle.cj_track.specs.PlainTracks.{PlainTrack}
use Rattle.cj_track.specs.Tracks.{plain_track}
use Rattle.cj_inputs.proofs.PrimaryLemmas.{id_of, lent}
use Rattle.cj_inputs.proofs.object_primaries.push_ids.Goals as goal

pub loop-track-init : goal.loop-track-init
loop-track-init c = sym (append-nil (map lent c.args.ids.now.items))

pub loop-track-preserved : goal.loop-track-preserved
loop-track-preserved c =
    let track = c.track-item.result in
    let i = c.loop-track.track-index in
    let tracks = c.args.tracks.now in
    let old = map lent c.args.ids.now.items in
    ap (map lent) c.in_ok-push.ensures.items ∙ map_push lent c.loop-track.ids.items _
    ∙ ap (λ (ids : List (List ℕ)). ids ++ c.as_slice.result.now ∷ []) c.loop-track.invariant
    ∙ append_assoc old (map id_of (take i tracks)) (c.as_slice.result.now ∷ [])
    ∙ ap (λ (id : List ℕ). old ++ (map id_of (take i tracks) ++ id ∷ [])) (c.as_slice.ensures ∙ ap id_of c.track-item.is)
    ∙ ap (λ (ids : List (List ℕ)). old ++ ids) (sym (map_more id_of tracks i track c.loop-track-test.true))

pub returns : goal.returns
returns c =
    let tracks = c.args.tracks.now in
    let id_of_plain : PlainTrack → List ℕ = λ e. e.id in
    c.loop-track.invariant
    ∙ ap (λ (ids : List (List ℕ)). map lent c.args.ids.now.items ++ ids) (ap (map id_of) (take_all c.loop-track.track-index tracks (omega arith)) ∙ sym (map-map id_of_plain plain_track tracks))

pub returns-in_err-push : goal.returns-in_err-push
returns-in_err-push c = IfOk-from_err c.from_residual.result _ c.from_residual.ensures.0
