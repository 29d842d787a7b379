use Rattle.std.proofs.Common.{ℕ, subst}
use Rattle.cj_brief_checker.specs.SlotCells.{IsFound, IsTried}
use Rattle.cj_brief_checker.proofs.slot_cells.found_from.Goals as goal

-- what was tried, where it begins in the same place
pub returns-then-tiled-at : goal.returns-then-tiled-at
returns-then-tiled-at c =
    subst (λ (n : ℕ). IsFound c.args.problem.now c.args.cert.now c.args.slot n c.in-Some.tiled.found) c.if-tiled-at.true
    (subst (IsTried c.args.problem.now c.args.cert.now c.args.slot) c.in-Some.is c.requires.tried)
