use Rattle.std.proofs.Common.{ℕ, ◌+◌, ◌<◌, ◌≤◌, take}
use Rattle.std.specs.List.{sum_by}
use Rattle.cj_grid.specs.Among.{StillTouchAmong, AreFoundAt}
use Rattle.cj_grid.specs.Buckets.{entered_in}
use Rattle.cj_case.specs.Pairs.{ArePairsKept}
use Rattle.cj_grid.specs.Found.{ShareBucket}
use Rattle.cj_grid.proofs.bucket_pairs.append_shared.Given as goal

abbrev pub invariant-loop-at : goal.invariant-loop-at
invariant-loop-at g l = record {
  touching : StillTouchAmong l.objects l.initial.pairs.items l.pairs.items;
  kept : ArePairsKept l.initial.pairs.items l.pairs.items;
  found : (j : ℕ) → j < l.at → (k : ℕ) → j < k → ShareBucket l.entries j k → AreFoundAt l.objects l.entries j k l.pairs.items;
  no_fewer : l.initial.steps ≤ l.steps;
  steps : l.steps ≤ l.initial.steps + sum_by (λ e. entered_in e.bucket l.entries) (take l.at l.entries);
}
