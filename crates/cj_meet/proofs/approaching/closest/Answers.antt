use Rattle.std.proofs.Common.{refl, sym, subst, All}
use Rattle.cj_case.specs.Problems.{plain_problem}
use Rattle.cj_case.specs.declared.encounter.Closest.{Closest}
use Rattle.cj_case.specs.Leaves.{plain_leaves}
use Rattle.cj_meet.specs.Closest.{KeepTheirPieces}
use Rattle.cj_meet.specs.Encounters.{leaves_in}
use Rattle.cj_meet.specs.Searches.{plain_approach, HasInterpolants}
use Rattle.cj_meet.proofs.ClosestLemmas.{IsHigh, found_in, leaves_some, is_closest, closest_is, of_pairs, nearest_law}
use Rattle.cj_meet.proofs.EncounterLemmas.{leaves_in_encounter}
use Rattle.cj_meet.proofs.approaching.closest.Goals as goal
use Rattle.cj_meet.proofs.approaching.closest.Goals.{After-isqrt_up}

pub nearest-found-requires-clause-some : goal.nearest-found-requires-clause-some
nearest-found-requires-clause-some c = leaves_some c.args.leaves.now c.args.encounter.now c.requires.described.within

pub nearest-found-requires-clause-pieces : goal.nearest-found-requires-clause-pieces
nearest-found-requires-clause-pieces c =
    subst (KeepTheirPieces (plain_problem c.args.problem.now)) (sym (leaves_in_encounter c.args.leaves.now c.args.encounter.now)) c.requires.pieces

high : (c : After-isqrt_up) → IsHigh (plain_approach c.nearest-found.result) c.isqrt_up.result
high c = record { above = c.isqrt_up.ensures.above; least = c.isqrt_up.ensures.least }

pub returns-clause-value : goal.returns-clause-value
returns-clause-value c =
    is_closest (plain_problem c.args.problem.now) (leaves_in (plain_leaves c.args.leaves.now) c.args.encounter.now) (plain_approach c.nearest-found.result) _
    (found_in (plain_problem c.args.problem.now) c.args.leaves.now c.args.encounter.now (plain_approach c.nearest-found.result) c.nearest-found.ensures.end c.nearest-found.ensures.nearest)
    (high (goal.at.returns-clause-value c).After-isqrt_up) refl

pub returns-clause-exact : goal.returns-clause-exact
returns-clause-exact c =
    let at : Closest = record { tick = c.nearest-found.result.tick; high = c.isqrt_up.result } in
    closest_is (plain_problem c.args.problem.now) (leaves_in (plain_leaves c.args.leaves.now) c.args.encounter.now) (plain_approach c.nearest-found.result) at
    (found_in (plain_problem c.args.problem.now) c.args.leaves.now c.args.encounter.now (plain_approach c.nearest-found.result) c.nearest-found.ensures.end c.nearest-found.ensures.nearest)
    (high (goal.at.returns-clause-exact c).After-isqrt_up) refl

pub returns-clause-law : goal.returns-clause-law
returns-clause-law c =
    let case = plain_problem c.args.problem.now in
    let e = c.args.encounter.now in
    let ss = leaves_in (plain_leaves c.args.leaves.now) e in
    nearest_law case e.pair.a e.pair.b ss (plain_approach c.nearest-found.result) c.isqrt_up.result
    (of_pairs case e.pair.a e.pair.b ss c.requires.described.objects c.requires.pieces
    (subst (All (HasInterpolants case)) (leaves_in_encounter c.args.leaves.now e) c.nearest-found.ensures.interpolants))
    (found_in case c.args.leaves.now e (plain_approach c.nearest-found.result) c.nearest-found.ensures.end c.nearest-found.ensures.nearest)
    (high (goal.at.returns-clause-law c).After-isqrt_up)
