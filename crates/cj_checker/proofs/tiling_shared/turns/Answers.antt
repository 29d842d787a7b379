use Rattle.std.proofs.Common.{length, arith, div-add-mod'}
use Rattle.std.proofs.lemmas.Nat.{mod_below}
use Rattle.cj_checker.proofs.tiling_shared.turns.Goals as goal

pub returns-clause-inside : goal.returns-clause-inside
returns-clause-inside c = λ number lt. omega (arith, lt, div-add-mod' (length c.args.keys.now) 4_096)

pub returns-clause-all : goal.returns-clause-all
returns-clause-all c = omega (arith, div-add-mod' (length c.args.keys.now) 4_096, mod_below (length c.args.keys.now) 4_096 (omega arith))
