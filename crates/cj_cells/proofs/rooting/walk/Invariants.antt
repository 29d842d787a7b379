use Rattle.std.proofs.Common.{◌≡◌, ◌+◌, ◌-◌, ◌≤◌, ◌++◌, map, length, take, drop, vec_len, All}
use Rattle.cj_track.specs.Tracks.{plain_track}
use Rattle.cj_hermite.specs.CommonRuns.{runs_between, both_numbers}
use Rattle.cj_hermite.specs.Roots.{root_of_run}
use Rattle.cj_cells.specs.Cells.{added_roots}
use Rattle.cj_cells.proofs.WalkLemmas.{roots_left}
use Rattle.cj_cells.proofs.rooting.walk.Given as goal

abbrev pub invariant-loop-ticks : goal.invariant-loop-ticks
invariant-loop-ticks l = record {
  room : vec_len l.roots ≤ l.limit;
  within : l.from.micros ≤ l.slot.last.micros;
  whole : added_roots l.initial.roots.items l.roots.items ++ roots_left l.pair.a l.pair.b (plain_track l.a) (plain_track l.b) l.from.micros l.slot.last.micros
      ≡ map (root_of_run l.pair.a l.pair.b) (runs_between (both_numbers (plain_track l.a) (plain_track l.b)) l.slot.first.micros l.slot.last.micros);
  kept : take (length l.initial.roots.items) l.roots.items ≡ l.initial.roots.items;
  root : All (λ cell. cell.root ≡ 0) (drop (length l.initial.roots.items) l.roots.items);
}

abbrev pub decreases-loop-ticks : goal.decreases-loop-ticks
decreases-loop-ticks l = l.slot.last.micros + 1 - l.from.micros
