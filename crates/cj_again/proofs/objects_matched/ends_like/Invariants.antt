use Rattle.std.proofs.Common.{◌≡◌, filter}
use Rattle.std.specs.Prelude.{option_map}
use Rattle.std.specs.List.{range_with_len}
use Rattle.cj_case.specs.Problems.{plain_problem}
use Rattle.cj_case.specs.Unchanged.{is_object}
use Rattle.cj_again.specs.Matchings.{ends_of, plain_ends}
use Rattle.cj_again.proofs.objects_matched.ends_like.Given as goal

abbrev pub invariant-loop-before : goal.invariant-loop-before
invariant-loop-before l =
    option_map plain_ends l.ends ≡ ends_of (filter (λ p. is_object (plain_problem l.old) (plain_problem l.new) p l.object) (range_with_len 0 l.before))
