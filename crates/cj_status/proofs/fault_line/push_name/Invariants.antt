use Rattle.std.proofs.Common.{◌≡◌, ◌++◌, map, take}
use Rattle.cj_status.specs.Faults.{shown_byte}
use Rattle.cj_status.proofs.fault_line.push_name.Given as goal

abbrev pub invariant-loop-byte : goal.invariant-loop-byte
invariant-loop-byte l = l.text.items ≡ l.fn.text.items ++ map shown_byte (take l.byte-index l.name)
