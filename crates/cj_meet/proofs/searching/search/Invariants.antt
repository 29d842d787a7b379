use Rattle.std.proofs.Common.{◌≡◌, ◌≤◌, length, drop}
use Rattle.cj_hermite.specs.Ready.{curve_ready}
use Rattle.cj_case.specs.Leaves.{plain_leaf}
use Rattle.cj_meet.specs.Searches.{plain_approach}
use Rattle.cj_meet.proofs.SearchLemmas.{Fit, work, Searched}
use Rattle.cj_meet.proofs.searching.search.Given as goal

abbrev pub invariant-loop-top : goal.invariant-loop-top
invariant-loop-top l = record {
  places : length l.parts ≡ 33;
  place : l.top ≤ 33;
  fit : Fit l.leaf.cell.first.micros l.leaf.cell.last.micros l.top (drop l.top l.parts);
  searched : Searched (curve_ready l.a) (curve_ready l.b) (plain_leaf l.leaf) l.leaf.cell.first.micros l.leaf.cell.last.micros (plain_approach l.fn.given) (plain_approach l.best) (drop l.top l.parts);
}

-- each look takes a part away, or puts halves with fewer ticks than it in its place
abbrev pub decreases-loop-top : goal.decreases-loop-top
decreases-loop-top l = work (drop l.top l.parts)
