use Rattle.std.proofs.Common.{◌≡◌, ◌++◌, ℕ, [], ◌∷◌, List, Option, length, map, sym, ap, ◌∙◌, arith}
use Rattle.std.specs.Prelude.{option_map}
use Rattle.std.specs.List.{range_with_len}
use Rattle.std.proofs.lemmas.List.{length-map, map_push}
use Rattle.std.proofs.lemmas.List.FromFn.{map-range_with_len_more}
use Rattle.cj_track.specs.declared.track.Track.{Track}
use Rattle.cj_track.specs.Tracks.{plain_track}
use Rattle.cj_case.specs.Problems.{plain_problem}
use Rattle.cj_again.specs.declared.ends.Ends.{Ends}
use Rattle.cj_again.specs.Matchings.{all_ends, ends_of, objects_like, plain_ends}
use Rattle.cj_again.proofs.objects_matched.match_objects.Goals as goal

pub loop-object-preserved : goal.loop-object-preserved
loop-object-preserved c =
    let old = plain_problem c.args.old.now in
    let new = plain_problem c.args.new.now in
    let object = c.loop-object.object in
    ap (λ (es : List (Option Ends)). map (option_map plain_ends) es) c.in_ok-push.ensures.items
    ∙ map_push (option_map plain_ends) c.loop-object.ends.items c.ends_like.result
    ∙ ap (λ (es : List (Option (ℕ × ℕ))). es ++ option_map plain_ends c.ends_like.result ∷ []) c.loop-object.invariant
    ∙ ap (λ (e : Option (ℕ × ℕ)). map (λ i. ends_of (objects_like old new i)) (range_with_len 0 object) ++ e ∷ []) c.ends_like.ensures
    ∙ sym (map-range_with_len_more (λ i. ends_of (objects_like old new i)) 0 object object (omega arith))

pub invariant_of-result : goal.invariant_of-result
unfolding all_ends
invariant_of-result c =
    let problem = c.args.new.now in
    let old = plain_problem c.args.old.now in
    let new = plain_problem problem in
    let count = ap (λ (ts : List Track). length ts) c.as_slice-objects.ensures.value in
    let end : c.loop-object.object ≡ length new.tracks = omega (arith, count, length-map problem.tracks plain_track) in
    record { matched = c.loop-object.invariant ∙ ap (λ (n : ℕ). map (λ i. ends_of (objects_like old new i)) (range_with_len 0 n)) end }
