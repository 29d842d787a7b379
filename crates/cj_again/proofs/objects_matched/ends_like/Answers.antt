use Rattle.std.proofs.Common.{◌≡◌, ℕ, List, Option, Some, filter, length, sym, ap, ◌∙◌, arith}
use Rattle.std.specs.Prelude.{option_map}
use Rattle.std.specs.List.{range_with_len}
use Rattle.std.proofs.lemmas.List.{length-map}
use Rattle.cj_track.specs.declared.track.Track.{Track}
use Rattle.cj_track.specs.Tracks.{plain_track}
use Rattle.cj_case.specs.Problems.{plain_problem}
use Rattle.cj_case.specs.Unchanged.{is_object}
use Rattle.cj_again.specs.Matchings.{ends_of, objects_like, plain_ends, with_end}
use Rattle.cj_again.proofs.MatchLemmas.{ends_below, ends_more, ends_same}
use Rattle.cj_again.proofs.objects_matched.ends_like.Goals as goal
use Rattle.cj_again.proofs.objects_matched.ends_like.Goals.{then-is_same, else-is_same}

pub with_last-requires : goal.with_last-requires
with_last-requires c =
    let old = plain_problem c.args.old.now in
    let new = plain_problem c.args.new.now in
    ends_below (λ p. is_object old new p c.args.object) c.loop-before.before c.loop-before.ends c.loop-before.invariant

pub loop-before-preserved : goal.loop-before-preserved
loop-before-preserved c =
    let old = plain_problem c.args.old.now in
    let new = plain_problem c.args.new.now in
    let before = c.loop-before.before in
    elim c.if-is_same.branch [
      | then-is_same w ↦
          ap (option_map plain_ends) w.ends-is
          ∙ ap (λ (e : ℕ × ℕ). Some e) w.with_last.ensures
          ∙ ap (λ (o : Option (ℕ × ℕ)). Some (with_end o before)) c.loop-before.invariant
          ∙ sym (ends_more (λ p. is_object old new p c.args.object) before (sym c.is_same.ensures ∙ w.if-is_same.true))
      | else-is_same w ↦
          ap (option_map plain_ends) w.ends-is
          ∙ c.loop-before.invariant
          ∙ sym (ends_same (λ p. is_object old new p c.args.object) before (sym c.is_same.ensures ∙ w.if-is_same.false))
    ]

pub returns : goal.returns
unfolding objects_like
returns c =
    let problem = c.args.old.now in
    let old = plain_problem problem in
    let new = plain_problem c.args.new.now in
    let count = ap (λ (ts : List Track). length ts) c.as_slice.ensures.value in
    let end : c.loop-before.before ≡ length old.tracks = omega (arith, count, length-map problem.tracks plain_track) in
    c.loop-before.invariant ∙ ap (λ (n : ℕ). ends_of (filter (λ p. is_object old new p c.args.object) (range_with_len 0 n))) end
