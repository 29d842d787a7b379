use Rattle.std.proofs.Common.{◌≡◌, ◌≤◌, ◌++◌, List, Some, take}
use Rattle.cj_io.specs.declared.file.FileBytes.{FileBytes}
use Rattle.cj_meet.specs.Encounters.{groups_in}
use Rattle.cj_outputs.specs.Findings.{case_in, met_in}
use Rattle.cj_outputs.specs.Messages.{message_outputs}
use Rattle.cj_outputs.specs.Origins.{plain_origin}
use Rattle.cj_outputs.proofs.messages.put_messages.Given as goal

abbrev pub invariant-loop-place : goal.invariant-loop-place
invariant-loop-place g l = record {
  put : (old : List FileBytes) → g.S.Shelf.outputs l.fn.shelf ≡ Some old → g.S.Shelf.outputs l.shelf
      ≡ Some (old ++ message_outputs (case_in l.found) (plain_origin l.origin) (groups_in (met_in l.found) (take l.place l.found.encounters.items)));
  later : g.S.Shelf.faults l.fn.shelf ≤ g.S.Shelf.faults l.shelf;
}
