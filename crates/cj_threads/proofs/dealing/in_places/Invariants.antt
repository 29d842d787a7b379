use Rattle.std.proofs.Common.{◌≡◌, All, length}
use Rattle.cj_threads.specs.Dealing.{IsDone, HoldWhatIsDone}
use Rattle.cj_threads.proofs.dealing.in_places.Given as goal

-- what is left, and what stands at its place
abbrev pub invariant-loop-one : goal.invariant-loop-one
invariant-loop-one g l = record {
  done : All (IsDone g.F.Fn l._f l.count) l.done.items;
  len : length l.places.items ≡ l.count;
  hold : HoldWhatIsDone g.F.Fn l._f l.places.items;
}

abbrev pub decreases-loop-one : goal.decreases-loop-one
decreases-loop-one g l = length l.done.items
