use Rattle.std.proofs.Common.{sym, ◌∙◌}
use Rattle.cj_sieve.proofs.KeptLemmas.{both_kept, first_without, second_without}
use Rattle.cj_sieve.proofs.pair_filter.are_close.Goals as goal

pub returns-in-Some-Some : goal.returns-in-Some-Some
returns-in-Some-Some c = both_kept _ _ _ _ c.in-Some-Some.a c.in-Some-Some.b _ (sym c.shell_of_object.ensures ∙ c.in-Some-Some.is-0) (sym c.shell_of_object-2.ensures ∙ c.in-Some-Some.is-1) c.threshold_between-between.ensures.value c.parted.ensures.value

pub returns-in_default : goal.returns-in_default
returns-in_default c = second_without _ _ _ (sym c.shell_of_object-2.ensures ∙ c.in_default.is-1)

pub returns-in_default-2 : goal.returns-in_default-2
returns-in_default-2 c = first_without _ _ _ (sym c.shell_of_object.ensures ∙ c.in_default.is-0)
