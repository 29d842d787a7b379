use Rattle.std.proofs.Common.{◌≡◌, ◌++◌, length, map, Ok}
use Rattle.std.specs.Vec.Iter.{into_iter_items, into_iter_len}
use Rattle.cj_threads.proofs.dealt_parts.all_made.Given as goal

-- what was made, and the outputs that are left
abbrev pub invariant-loop-output : goal.invariant-loop-output
invariant-loop-output g l = record {
  whole : map Ok l.made.items ++ into_iter_items l.output-iterator ≡ into_iter_items l.initial.output-iterator;
  len : into_iter_len l.output-iterator ≡ length (into_iter_items l.output-iterator);
}
