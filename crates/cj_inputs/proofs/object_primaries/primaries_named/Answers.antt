use Rattle.std.proofs.Common.{◌∙◌, ℕ, Bool, List, Bor, Option, Some, length, map, ap, sym, append-nil}
use Rattle.std.proofs.lemmas.List.{length-map}
use Rattle.std.proofs.lemmas.Result.{IfOk-from_err}
use Rattle.std.proofs.lemmas.Simd.{map-map}
use Rattle.cj_case.specs.Primaries.{marks_of}
use Rattle.cj_sizes.specs.Primaries.{has_id}
use Rattle.cj_track.specs.PlainTracks.{PlainTrack}
use Rattle.cj_track.specs.Tracks.{plain_track}
use Rattle.cj_inputs.specs.ObjectPrimaries.{ids_of}
use Rattle.cj_inputs.proofs.PrimaryLemmas.{lent}
use Rattle.cj_inputs.proofs.object_primaries.primaries_named.Goals as goal

pub returns-clause-value : goal.returns-clause-value
returns-clause-value c =
    let tracks = map plain_track c.args.tracks.now in
    let has : List ℕ → Bool = has_id c.args.named.now in
    let id_of_plain : PlainTrack → List ℕ = λ e. e.id in
    c.marked.ensures ∙ ap (λ (marks : List Bool). Some marks)
    (c.in_ok-marks.ensures
    ∙ ap (λ (ids : List (Bor (List ℕ))). map (λ (id : Bor (List ℕ)). has id.now) ids) c.deref.ensures.value
    ∙ sym (map-map has lent c.in_ok-ids.ids.items)
    ∙ ap (map has) (c.in_ok-ids.ensures ∙ append-nil (ids_of tracks))
    ∙ map-map has id_of_plain tracks)

pub returns-clause-many : goal.returns-clause-many
returns-clause-many c =
    ap (λ (p : Option (List Bool)). marks_of p (length c.args.tracks.now)) (returns-clause-value c)
    ∙ length-map (map plain_track c.args.tracks.now) (λ (e : PlainTrack). has_id c.args.named.now e.id) ∙ length-map c.args.tracks.now plain_track

pub returns-in_err-ids : goal.returns-in_err-ids
returns-in_err-ids c =
    let failed = c.from_residual.ensures.0 in
    record { value = IfOk-from_err c.from_residual.result _ failed; many = IfOk-from_err c.from_residual.result _ failed }

pub returns-in_err-marks : goal.returns-in_err-marks
returns-in_err-marks c =
    let failed = c.from_residual-in_err-marks.ensures.0 in
    record { value = IfOk-from_err c.from_residual-in_err-marks.result _ failed; many = IfOk-from_err c.from_residual-in_err-marks.result _ failed }
