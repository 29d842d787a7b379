use Rattle.std.proofs.Common.{◌≡◌, ◌++◌, map, take}
use Rattle.std.specs.Prelude.{flat_map}
use Rattle.cj_oem.specs.Canonical.{row_text}
use Rattle.cj_track.specs.Tracks.{plain_node}
use Rattle.cj_oem.proofs.printing.nodes.push_nodes.Given as goal

abbrev pub invariant-loop-node : goal.invariant-loop-node
invariant-loop-node l = l.text.items ≡ l.fn.text.items ++ flat_map row_text (map plain_node (take l.node-index l.nodes))
