use Rattle.std.proofs.Common.{◌≡◌, map}
use Rattle.std.specs.Prelude.{option_map}
use Rattle.std.specs.List.{range_with_len}
use Rattle.cj_case.specs.Problems.{plain_problem}
use Rattle.cj_again.specs.Matchings.{ends_of, objects_like, plain_ends}
use Rattle.cj_again.proofs.objects_matched.match_objects.Given as goal

abbrev pub invariant-loop-object : goal.invariant-loop-object
invariant-loop-object l =
    map (option_map plain_ends) l.ends.items ≡ map (λ i. ends_of (objects_like (plain_problem l.old) (plain_problem l.new) i)) (range_with_len 0 l.object)
