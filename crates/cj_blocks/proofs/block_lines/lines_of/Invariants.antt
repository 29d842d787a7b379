use Rattle.std.proofs.Common.{◌≡◌, map, take}
use Rattle.cj_blocks.specs.Listed.{plain_block}
use Rattle.cj_cert.specs.Certificates.{plain_box_line}
use Rattle.cj_blocks.specs.Rewritten.{line_of_block}
use Rattle.cj_blocks.proofs.block_lines.lines_of.Given as goal

abbrev pub invariant-loop-block : goal.invariant-loop-block
invariant-loop-block l = map plain_box_line l.lines.items ≡ map line_of_block (map plain_block (take l.block-index l.found))
