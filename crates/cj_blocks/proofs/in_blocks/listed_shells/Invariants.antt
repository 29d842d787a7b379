use Rattle.std.proofs.Common.{◌≡◌, map, take}
use Rattle.cj_blocks.proofs.in_blocks.listed_shells.Given as goal

abbrev pub invariant-loop-line : goal.invariant-loop-line
invariant-loop-line l = l.shells.items ≡ map (λ line. line.shell) (take l.line-index l.cert.shells.items)
