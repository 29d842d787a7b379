use Rattle.std.proofs.Common.{◌≡◌, map, vec_len}
use Rattle.std.specs.List.{range_with_len}
use Rattle.cj_cert.specs.Written.{line_by_shells}
use Rattle.cj_cert.proofs.written.shell_lines.Given as goal

abbrev pub invariant-loop-shell : goal.invariant-loop-shell
invariant-loop-shell l = record {
  lines : l.lines.items ≡ map (line_by_shells l.shells) (range_with_len 0 l.shell-index);
  count : vec_len l.lines ≡ l.shell-index;
}
