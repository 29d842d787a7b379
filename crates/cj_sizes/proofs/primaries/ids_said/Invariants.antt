use Rattle.std.proofs.Common.{◌≡◌, List, ℕ, [], length}
use Rattle.cj_kvn.specs.Cursors.{said_by}
use Rattle.cj_kvn.specs.Lines.{reading}
use Rattle.cj_sizes.specs.Primaries.{Holds, ids_said}
use Rattle.cj_sizes.proofs.primaries.ids_said.Given as goal

-- the lines that are left add to the designators so far what all of them name
abbrev pub invariant-loop-draft : goal.invariant-loop-draft
invariant-loop-draft l = record {
  led : (ids : List (List ℕ)) → Holds l.known ids → ids_said ids l.draft (said_by l.lines) ≡ ids_said ids [] (reading l.bytes);
  same : l.lines.bytes ≡ l.bytes;
}

abbrev pub decreases-loop-draft : goal.decreases-loop-draft
decreases-loop-draft l = length l.lines.rest
