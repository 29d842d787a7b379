use Rattle.std.proofs.Common.{◌≡◌, is_some, option_map, length, get_or, sym, ap, ◌∙◌, arith}
use Rattle.cj_track.specs.declared.track.Track.{Track}
use Rattle.cj_track.specs.Tracks.{plain_track}
use Rattle.cj_hermite.specs.Pieces.{piece_holding, piece_at, curve_of_piece}
use Rattle.cj_hermite.proofs.TrackLemmas.{object_exists, number_of_track, curve_of_track}
use Rattle.cj_hermite.proofs.piece_lookup.piece_of.Goals as goal

pub bounds-as_slice-object : goal.bounds-as_slice-object
bounds-as_slice-object c =
    let below = object_exists c.args.problem.now c.args.object c.args.at.micros c.requires in
    let same = ap length c.as_slice.ensures.value in
    omega (arith, below, same)

pub piece_of_track-requires : goal.piece_of_track-requires
piece_of_track-requires c =
    let problem = c.args.problem.now in
    let track = c.index-as_slice-object.result in
    let below = object_exists problem c.args.object c.args.at.micros c.requires in
    let at : track ≡ get_or problem.tracks c.args.object track = c.index-as_slice-object.is ∙ ap (λ ts. get_or ts c.args.object track) c.as_slice.ensures.value in
    ap (λ (t : Track). is_some (piece_at (plain_track t) c.args.at.micros)) at
    ∙ ap is_some (sym (number_of_track problem c.args.object c.args.at.micros track below))
    ∙ c.requires

pub returns : goal.returns
returns c =
    let problem = c.args.problem.now in
    let track = c.index-as_slice-object.result in
    let below = object_exists problem c.args.object c.args.at.micros c.requires in
    let at : track ≡ get_or problem.tracks c.args.object track = c.index-as_slice-object.is ∙ ap (λ ts. get_or ts c.args.object track) c.as_slice.ensures.value in
    curve_of_track problem c.args.object c.args.at.micros track below
    ∙ ap (λ (t : Track). option_map curve_of_piece (piece_holding (plain_track t) c.args.at.micros)) (sym at)
    ∙ c.piece_of_track.ensures
