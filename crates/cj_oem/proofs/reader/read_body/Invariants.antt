use Rattle.std.proofs.Common.{◌≡◌, length}
use Rattle.cj_kvn.specs.Cursors.{said_by}
use Rattle.cj_kvn.specs.Lines.{reading}
use Rattle.cj_oem.specs.Reading.{body_said}
use Rattle.cj_oem.specs.Readers.{stage_of}
use Rattle.cj_oem.proofs.ReaderLemmas.{led_from}
use Rattle.cj_oem.proofs.reader.read_body.Given as goal

-- from here on the lines lead to what all of them lead to
abbrev pub invariant-loop-stage : goal.invariant-loop-stage
invariant-loop-stage l = record {
  led : led_from l.as_hermite3 (stage_of l.stage) l.number (said_by l.lines) ≡ body_said l.as_hermite3 (reading l.bytes);
  same : l.lines.bytes ≡ l.bytes;
}

abbrev pub decreases-loop-stage : goal.decreases-loop-stage
decreases-loop-stage l = length l.lines.rest
