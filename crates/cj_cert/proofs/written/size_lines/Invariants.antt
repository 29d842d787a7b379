use Rattle.std.proofs.Common.{◌≡◌, take, vec_len}
use Rattle.cj_cert.specs.Written as spec
use Rattle.cj_cert.proofs.written.size_lines.Given as goal

abbrev pub invariant-loop-size : goal.invariant-loop-size
invariant-loop-size l = record {
  lines : l.lines.items ≡ spec.size_lines (take l.size-index l.sizes);
  count : vec_len l.lines ≡ l.size-index;
}
