use Rattle.std.proofs.Common.{ℕ, ◌<◌, ◌≤◌, length}
use Rattle.std.specs.Prelude.{All, slice_index}
use Rattle.cj_grid.specs.Sweeps.{HasReach}
use Rattle.cj_grid.proofs.reaches.enter.Given as goal

abbrev pub invariant-loop-object : goal.invariant-loop-object
invariant-loop-object l = record {
  exist : All (λ reach. reach.object < length l.objects.boxes.now) l.reaches.items;
  entered : (k : ℕ) → k < l.object-index → HasReach l.objects l.axis l.longest l.reaches.items (slice_index l.some k);
  few : length l.reaches.items ≤ l.object-index;
}
