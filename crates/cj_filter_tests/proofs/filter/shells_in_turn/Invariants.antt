use Rattle.std.proofs.Common.{◌≡◌, length}
use Rattle.cj_filter_tests.proofs.filter.shells_in_turn.Given as goal

abbrev pub invariant-loop-object : goal.invariant-loop-object
invariant-loop-object l = length l.shells.items ≡ l.object
