use Rattle.std.proofs.Common.{take}
use Rattle.cj_sizes.specs.Radii.{Holds}
use Rattle.cj_sizes.specs.Sizes.{sizes_of}
use Rattle.cj_sizes.proofs.radii.radii_given.Given as goal

abbrev pub invariant-loop-line : goal.invariant-loop-line
invariant-loop-line l = Holds l.asked (sizes_of (take l.line-index l.lines)) l.given
