use Rattle.std.proofs.Common.{◌≡◌, length, All}
use Rattle.cj_kvn.specs.Cursors.{said_by}
use Rattle.cj_kvn.specs.Lines.{LineIsWithin, lines_at, reading}
use Rattle.cj_kvn.proofs.ReadingLemmas.{with_front}
use Rattle.cj_kvn.proofs.reading.read_lines.Given as goal

abbrev pub invariant-loop-lines : goal.invariant-loop-lines
invariant-loop-lines l = record {
  read : with_front (lines_at l.bytes l.lines.items) (said_by l.left) ≡ reading l.bytes;
  within : All (LineIsWithin l.bytes) l.lines.items;
  same : l.left.bytes ≡ l.bytes;
}

abbrev pub decreases-loop-lines : goal.decreases-loop-lines
decreases-loop-lines l = length l.left.rest
