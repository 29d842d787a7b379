use Rattle.std.proofs.Common.{◌≡◌, ◌∙◌, ◌++◌, ◌∷◌, [], Option, List, ap, sym, arith}
use Rattle.std.specs.Prelude.{option_to_list}
use Rattle.std.proofs.lemmas.List.{nil_from_length}
use Rattle.cj_track.specs.declared.track.Track.{Track}
use Rattle.cj_inputs.specs.Orders.{inserted}
use Rattle.cj_inputs.specs.Places.{file_of, place_before}
use Rattle.cj_inputs.specs.Updates.{by_name, with_others}
use Rattle.cj_inputs.proofs.PlaceLemmas.{other_placed, others_last, place_short}
use Rattle.cj_inputs.proofs.placing.place_others.Goals as goal

pub insert-requires : goal.insert-requires
insert-requires c =
    let tracks = c.loop-other.tracks in
    let place = c.place_before-place.ensures ∙ ap (λ (ts : List Track). place_before ts c.in-Some.other) c.deref.ensures.value in
    omega (arith, place, place_short tracks.items c.in-Some.other, tracks.ok.0)

pub loop-other-preserved : goal.loop-other-preserved
loop-other-preserved c =
    let tracks = c.loop-other.tracks.items in
    let other = c.in-Some.other in
    let left = c.pop.new.self.items in
    let split : c.loop-other.others.items ≡ left ++ other ∷ [] = c.pop.ensures.items ∙ ap (λ (r : Option Track). left ++ option_to_list r) c.in-Some.is in
    let place = c.place_before-place.ensures ∙ ap (λ (ts : List Track). place_before ts other) c.deref.ensures.value in
    let placed : c.insert.new.self.items ≡ inserted (by_name file_of) other tracks = c.in_ok-insert.ensures.items ∙ sym (other_placed tracks other c.place_before-place.result place) in
    ap (λ (ts : List Track). with_others file_of left ts) placed
    ∙ sym (others_last file_of left other tracks)
    ∙ ap (λ (os : List Track). with_others file_of os tracks) (sym split)
    ∙ c.loop-other.invariant

pub returns : goal.returns
returns c =
    let none = nil_from_length c.loop-other.others.items (omega (arith, c.in_default.ensures.cases.0, c.loop-other.others.ok.0)) in
    sym (ap (λ (os : List Track). with_others file_of os c.loop-other.tracks.items) none) ∙ c.loop-other.invariant
