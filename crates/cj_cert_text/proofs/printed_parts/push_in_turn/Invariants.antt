use Rattle.std.proofs.Common.{◌≡◌, ◌++◌, take}
use Rattle.std.specs.Prelude.{flat_map}
use Rattle.cj_cert_text.proofs.printed_parts.push_in_turn.Given as goal

abbrev pub invariant-loop-line : goal.invariant-loop-line
invariant-loop-line g l = l.text.items ≡ l.fn.text.items ++ flat_map (g.L.PrintedLine.text_by l.version) (take l.line-index l.lines)
