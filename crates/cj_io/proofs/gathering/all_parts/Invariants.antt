use Rattle.std.proofs.Common.{◌≡◌, ◌++◌}
use Rattle.cj_io.specs.Parts.{joined}
use Rattle.cj_io.proofs.gathering.all_parts.Given as goal

-- what is made and what is left are the whole
abbrev pub invariant-loop-parts : goal.invariant-loop-parts
invariant-loop-parts g l = joined l.parts.items ++ g.M.PartSource.rest l.source ≡ g.M.PartSource.rest l.fn.source

abbrev pub decreases-loop-parts : goal.decreases-loop-parts
decreases-loop-parts g l = g.M.PartSource.left l.source
