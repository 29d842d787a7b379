use Rattle.std.proofs.Common.{◌≡◌, ℕ, ◌+◌, List, length}
use Rattle.std.specs.Vec.Iter.{into_iter_items, into_iter_len}
use Rattle.cj_case.specs.PlainProblems.{PlainProblem}
use Rattle.cj_slabs.specs.Slabs.{AreOutcomes, least_of, leaves_listed, told_by_outcomes}
use Rattle.cj_slabs.proofs.JoinLemmas.{FoundSoFar}
use Rattle.cj_slabs.proofs.joining.joined.Given as goal

-- the slabs so far, and the outcomes that are left
abbrev pub invariant-loop-outcome : goal.invariant-loop-outcome
invariant-loop-outcome l = record {
  found : (case : PlainProblem) (slots : List ℕ) → AreOutcomes case slots (into_iter_items l.initial.outcome-iterator) → FoundSoFar case slots l.found (into_iter_items l.outcome-iterator);
  counted : l.found.counts.leaves + least_of (into_iter_items l.outcome-iterator) ≡ least_of (into_iter_items l.initial.outcome-iterator);
  told : length (leaves_listed l.found.slabs.items) + told_by_outcomes (into_iter_items l.outcome-iterator) ≡ told_by_outcomes (into_iter_items l.initial.outcome-iterator);
  len : into_iter_len l.outcome-iterator ≡ length (into_iter_items l.outcome-iterator);
}
