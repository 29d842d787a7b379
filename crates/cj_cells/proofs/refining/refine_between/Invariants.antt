use Rattle.std.proofs.Common.{◌≡◌, ◌+◌, ◌-◌, ◌*◌, ◌≤◌, ◌++◌, length, take, drop, vec_len, All}
use Rattle.cj_hermite.specs.Ready.{curve_ready}
use Rattle.cj_bezier.specs.RootLeaves.{kind_between}
use Rattle.cj_bezier.specs.Halving.{leaves_between}
use Rattle.cj_cells.specs.Cells.{added_leaves}
use Rattle.cj_cells.proofs.RefineLemmas.{rest, Fit}
use Rattle.cj_cells.proofs.refining.refine_between.Given as goal

abbrev pub invariant-loop-top : goal.invariant-loop-top
invariant-loop-top g l = record {
  from : l.cell.first.micros ≤ l.first;
  places : length l.lasts ≡ 33;
  place : l.top ≤ 33;
  room : vec_len l.leaves ≤ l.limit;
  fit : Fit l.cell.last.micros l.first l.top (drop l.top l.lasts);
  whole : added_leaves l.initial.leaves.items l.leaves.items ++ rest (kind_between (curve_ready l.a) (curve_ready l.b) l.thr) l.cell.pair.a l.cell.pair.b l.first (drop l.top l.lasts)
      ≡ leaves_between (kind_between (curve_ready l.a) (curve_ready l.b) l.thr) l.cell.pair.a l.cell.pair.b l.cell.first.micros l.cell.last.micros;
  kept : take (length l.initial.leaves.items) l.leaves.items ≡ l.initial.leaves.items;
  root : All (λ leaf. leaf.cell.root ≡ l.cell.root) (drop (length l.initial.leaves.items) l.leaves.items);
  no_fewer : l.initial.steps ≤ l.steps;
  steps : l.steps + 1 ≡ l.initial.steps + (2 * length (added_leaves l.initial.leaves.items l.leaves.items) + (33 - l.top));
}

-- each look closes a part, or moves one place inward
abbrev pub decreases-loop-top : goal.decreases-loop-top
decreases-loop-top g l = 34 * (l.cell.last.micros + 1 - l.first) + l.top
