use Rattle.std.proofs.Common.{◌≡◌, ◌+◌, ◌*◌, ◌≤◌, length}
use Rattle.std.specs.Prelude.{◌==◌}
use Rattle.std.specs.List.{slice_split}
use Rattle.cj_cert_text.specs.Readers.{plain_draft}
use Rattle.cj_cert_text.specs.Reading.{lines_said, reads_on}
use Rattle.cj_cert_text.proofs.reading.read_lines.Given as goal

-- what the lines so far and those that are left say
abbrev pub invariant-loop-text : goal.invariant-loop-text
invariant-loop-text l = record {
  read : reads_on l.format l.number l.before (plain_draft l.draft) (slice_split (λ b. b == 10) l.rest) ≡ lines_said l.format l.fn.bytes;
  lines : 3 * l.number + length l.rest ≤ length l.fn.bytes + 3;
}

abbrev pub decreases-loop-text : goal.decreases-loop-text
decreases-loop-text l = length l.rest
