use Rattle.std.proofs.Common.{ℕ, ◌+◌, ◌-◌, ◌<◌, ◌≤◌, length, take}
use Rattle.cj_grid.specs.Among.{StillTouchAmong, AreFoundAt}
use Rattle.cj_grid.specs.Buckets.{entered_in}
use Rattle.cj_case.specs.Pairs.{ArePairsKept}
use Rattle.cj_grid.specs.Found.{entry_at}
use Rattle.cj_grid.proofs.bucket_pairs.append_row.Given as goal

abbrev pub invariant-loop-own : goal.invariant-loop-own
invariant-loop-own g l = record {
  above : l.at < l.next;
  upto : l.next ≤ length l.entries;
  touching : StillTouchAmong l.objects l.initial.pairs.items l.pairs.items;
  kept : ArePairsKept l.initial.pairs.items l.pairs.items;
  found : (k : ℕ) → k < l.next → l.at < k → AreFoundAt l.objects l.entries l.at k l.pairs.items;
  no_fewer : l.initial.steps ≤ l.steps;
  steps : l.steps ≤ l.initial.steps + entered_in (entry_at l.entries l.at).bucket (take l.next l.entries);
}

abbrev pub decreases-loop-own : goal.decreases-loop-own
decreases-loop-own g l = length l.entries - l.next
