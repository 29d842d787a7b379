use Rattle.std.proofs.Common.{◌≡◌, ◌≤◌, take}
use Rattle.std.specs.Prelude.{count_by}
use Rattle.cj_outputs.proofs.counting.count_set.Given as goal

abbrev pub invariant-loop-flag : goal.invariant-loop-flag
invariant-loop-flag l = record {
  counted : l.count ≡ count_by (λ flag. flag) (take l.flag-index l.flags);
  small : l.count ≤ l.flag-index;
}
