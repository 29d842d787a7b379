use Rattle.std.proofs.Common.{◌≡◌, ◌++◌}
use Rattle.std.specs.Prelude.{flat_map}
use Rattle.std.specs.List.{range_with_len}
use Rattle.cj_gen.specs.Orbits.{after_turns}
use Rattle.cj_gen.specs.Texts.{node_line}
use Rattle.cj_gen.proofs.text.push_nodes.Given as goal

abbrev pub invariant-loop-minute : goal.invariant-loop-minute
invariant-loop-minute l = record {
  text : l.text.items ≡ l.fn.text.items ++ flat_map (node_line l.orbit) (range_with_len 0 l.minute);
  place : l.place ≡ after_turns l.minute l.orbit.first;
}
