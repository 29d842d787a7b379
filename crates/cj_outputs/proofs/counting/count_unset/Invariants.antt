use Rattle.std.proofs.Common.{◌≡◌, ◌≤◌, not, take}
use Rattle.std.specs.Prelude.{count_by}
use Rattle.cj_outputs.proofs.counting.count_unset.Given as goal

abbrev pub invariant-loop-flag : goal.invariant-loop-flag
invariant-loop-flag l = record {
  counted : l.count ≡ count_by not (take l.flag-index l.flags);
  small : l.count ≤ l.flag-index;
}
