use Rattle.std.proofs.Common.{◌≡◌, Bool, List, get_or, sym, ap, subst, ◌∙◌}
use Rattle.std.specs.Prelude.{◌&&◌, ◌==◌, slice_index}
use Rattle.cj_track.specs.declared.track.Track.{Track}
use Rattle.cj_again.proofs.SameLemmas.{tracks_told}
use Rattle.cj_again.proofs.objects_matched.is_like.Goals as goal

pub returns-then-are_same_tracks : goal.returns-then-are_same_tracks
returns-then-are_same_tracks c =
    let old = c.args.old.now in
    let new = c.args.new.now in
    let one = subst (λ (ts : List Track). c.index-as_slice-before.result ≡ get_or ts c.args.before c.index-as_slice-before.result) c.as_slice.ensures.value c.index-as_slice-before.is in
    let other = subst (λ (ts : List Track). c.index-as_slice-object.result ≡ get_or ts c.args.object c.index-as_slice-object.result) c.as_slice-2.ensures.value c.index-as_slice-object.is in
    let told = tracks_told old.tracks new.tracks c.args.before c.args.object c.index-as_slice-before.result c.index-as_slice-object.result c.requires.before c.requires.object one other in
    let both = told ∙ sym c.are_same_tracks.ensures ∙ c.if-are_same_tracks.true in
    (λ i. slice_index (c.as_slice-then-are_same_tracks.ensures.value i) c.args.before == slice_index (c.as_slice-then-are_same_tracks-2.ensures.value i) c.args.object)
    ∙ sym (ap (λ (b : Bool). b && (slice_index old.sizes c.args.before == slice_index new.sizes c.args.object)) both)

pub returns-else-are_same_tracks : goal.returns-else-are_same_tracks
returns-else-are_same_tracks c =
    let old = c.args.old.now in
    let new = c.args.new.now in
    let one = subst (λ (ts : List Track). c.index-as_slice-before.result ≡ get_or ts c.args.before c.index-as_slice-before.result) c.as_slice.ensures.value c.index-as_slice-before.is in
    let other = subst (λ (ts : List Track). c.index-as_slice-object.result ≡ get_or ts c.args.object c.index-as_slice-object.result) c.as_slice-2.ensures.value c.index-as_slice-object.is in
    let told = tracks_told old.tracks new.tracks c.args.before c.args.object c.index-as_slice-before.result c.index-as_slice-object.result c.requires.before c.requires.object one other in
    let both = told ∙ sym c.are_same_tracks.ensures ∙ c.if-are_same_tracks.false in
    c.if-are_same_tracks.false ∙ sym (ap (λ (b : Bool). b && (slice_index old.sizes c.args.before == slice_index new.sizes c.args.object)) both)
