use Rattle.std.proofs.Common.{◌≡◌, ℕ, ◌+◌, ◌<◌, ◌≤◌, get_or}
use Rattle.cj_case.specs.Pairs.{AreBoth, ArePairsKept}
use Rattle.cj_grid.specs.declared.reach.Reach.{Reach}
use Rattle.cj_grid.specs.Among.{StillTouchAmong, AreFound}
use Rattle.cj_grid.proofs.sweep.append_met.Given as goal

abbrev pub invariant-loop-other : goal.invariant-loop-other
invariant-loop-other g l = record {
  touching : StillTouchAmong l.objects l.initial.pairs.items l.pairs.items;
  kept : ArePairsKept l.initial.pairs.items l.pairs.items;
  found : (k : ℕ) → k < l.other-index → (other : Reach) → get_or l.others k other ≡ other → AreFound l.objects (AreBoth l.one other.object) l.pairs.items;
  no_fewer : l.initial.steps ≤ l.steps;
  steps : l.steps ≤ l.initial.steps + l.other-index;
}
