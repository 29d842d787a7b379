use Rattle.std.proofs.Common.{◌≡◌, [], length}
use Rattle.cj_kvn.specs.Cursors.{said_by}
use Rattle.cj_kvn.specs.Lines.{reading}
use Rattle.cj_sizes.specs.Reading.{sizes_said}
use Rattle.cj_sizes.proofs.reader.sizes_said.Given as goal

-- the lines that are left add to the sizes so far what all of them say
abbrev pub invariant-loop-draft : goal.invariant-loop-draft
invariant-loop-draft l = record {
  led : sizes_said l.draft (said_by l.lines) ≡ sizes_said [] (reading l.bytes);
  same : l.lines.bytes ≡ l.bytes;
}

abbrev pub decreases-loop-draft : goal.decreases-loop-draft
decreases-loop-draft l = length l.lines.rest
