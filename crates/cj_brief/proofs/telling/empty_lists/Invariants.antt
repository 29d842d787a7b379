use Rattle.std.proofs.Common.{◌≡◌, [], replicate}
use Rattle.cj_brief.specs.Telling.{plain_lists}
use Rattle.cj_brief.proofs.telling.empty_lists.Given as goal

abbrev pub invariant-loop : goal.invariant-loop
invariant-loop l = plain_lists l.lists.items ≡ replicate l.counter []
