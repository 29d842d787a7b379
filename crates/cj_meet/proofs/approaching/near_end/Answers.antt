use Rattle.std.proofs.Common.{◌+◌, ◌-◌, ◌/◌, arith}
use Rattle.cj_case.specs.Problems.{plain_problem}
use Rattle.cj_meet.specs.Searches.{plain_approach}
use Rattle.cj_meet.proofs.ClosestLemmas.{keeps_at, end_of_all}
use Rattle.cj_meet.proofs.approaching.near_end.Goals as goal

pub comes_nearer-requires : goal.comes_nearer-requires
comes_nearer-requires c =
    keeps_at (plain_problem c.args.problem.now) c.args.leaves.now (c.loop-low.low + (c.loop-low.high - c.loop-low.low) / 2) c.index-leaves-middle.result (omega arith) c.index-leaves-middle.is c.requires.pieces

pub glance-requires : goal.glance-requires
glance-requires c =
    keeps_at (plain_problem c.args.problem.now) c.args.leaves.now c.loop-low.low c.index-leaves-low.result (omega arith) c.index-leaves-low.is c.requires.pieces

pub returns : goal.returns
returns c =
    end_of_all (plain_problem c.args.problem.now) c.args.leaves.now c.loop-low.low c.index-leaves-low.result (plain_approach c.glance.result) (omega arith) c.index-leaves-low.is c.glance.ensures
