-- Where the objects of a new case stand in an old one.
use Rattle.std.proofs.Common.{◌≡◌, ℕ, true, List, Option, Some, None, length, map, option_map, sym, ap, subst, ◌∙◌, arith}
use Rattle.std.specs.Prelude.{slice_get}
use Rattle.std.proofs.lemmas.List.{length-map}
use Rattle.std.proofs.lemmas.Option.{slice_get-get_or, slice_get-map, slice_get_within}
use Rattle.std.proofs.Common.{get_or}
use Rattle.cj_case.specs.PlainProblems.{PlainProblem}
use Rattle.cj_case.specs.Unchanged.{is_object}
use Rattle.cj_candidates.specs.MeasuredObjects.{ArePlaces}
use Rattle.cj_again.specs.declared.ends.Ends.{Ends}
use Rattle.cj_again.specs.Matchings.{all_ends, ends_of, objects_like, plain_ends}
use Rattle.cj_again.proofs.MatchLemmas.{AreEndsOrNone, ends_are, ends_at, ends_count}
use Rattle.cj_again.proofs.TransportLemmas.{object_is}

-- the first of the ends of an object is that object
first_is : (old new : PlainProblem) (i p : ℕ) (o : Option Ends) → Some p ≡ option_map (λ e. e.first) o → option_map plain_ends o ≡ ends_of (objects_like old new i) → is_object old new p i ≡ true
unfolding objects_like
first_is old new i p None is same = absurd cc
first_is old new i p (Some ends) is same =
    let this : p ≡ ends.first = cc in
    let are = subst (AreEndsOrNone (λ q. is_object old new q i) (length old.tracks)) (sym same) (ends_are (λ q. is_object old new q i) (length old.tracks)) in
    ap (λ (q : ℕ). is_object old new q i) this ∙ are.first

pub places_are : (old new : PlainProblem) (items : List (Option Ends)) (places : List (Option ℕ)) → map (option_map plain_ends) items ≡ all_ends old new
    → places ≡ map (option_map (λ e. e.first)) items → ArePlaces old.tracks new.tracks places
places_are old new items places matched made = record {
  long = ap (λ (ps : List (Option ℕ)). length ps) made ∙ length-map items (option_map (λ e. e.first)) ∙ ends_count old new items matched;
  same = λ i p e there here.
      let lt = slice_get_within new.tracks i e here in
      let count = ends_count old new items matched in
      let at : Some (Some p) ≡ Some (option_map (λ e. e.first) (get_or items i None)) =
      sym there ∙ ap (λ (ps : List (Option ℕ)). slice_get ps i) made ∙ slice_get-map (option_map (λ e. e.first)) items i
      ∙ ap (option_map (option_map (λ e. e.first))) (slice_get-get_or items i None (omega (arith, lt, count))) in
      let this : Some p ≡ option_map (λ e. e.first) (get_or items i None) = cc in
      let is = first_is old new i p (get_or items i None) this (ends_at old new items i None matched lt) in
      sym (object_is old new p i is).0 ∙ here;
}
