use Rattle.std.proofs.Common.{ℕ, List, map, length, sym, ap, subst, ◌∙◌, arith}
use Rattle.std.proofs.lemmas.List.{length-map}
use Rattle.std.proofs.lemmas.Result.{IfOk-weaker}
use Rattle.cj_case.specs.Pairs.{objects_of, pairs_of}
use Rattle.cj_case.specs.Problems.{plain_problem}
use Rattle.cj_track.specs.Tracks.{plain_track}
use Rattle.cj_case.specs.Boxes.{plain_boxes}
use Rattle.cj_candidates.specs.declared.sought_pairs.Sought.{Sought}
use Rattle.cj_candidates.specs.SlotRuns.{sought_in}
use Rattle.cj_candidates.specs.SoughtPairs.{ArePairsOf, pairs_sought}
use Rattle.cj_candidates.proofs.ObjectLemmas.{as_many_boxes, touching_are}
use Rattle.cj_candidates.proofs.slots_searched.touching_among.Goals as goal

pub find_touching-requires-clause-few : goal.find_touching-requires-clause-few
find_touching-requires-clause-few c =
    let problem = c.args.ground.now.problem.now in
    let count = as_many_boxes (plain_problem problem) c.args.slot c.args.boxes.now c.requires in
    let few = problem.few in
    omega (arith, count, few, length-map problem.tracks plain_track)

pub find_touching-requires-clause-sized : goal.find_touching-requires-clause-sized
find_touching-requires-clause-sized c =
    let problem = c.args.ground.now.problem.now in
    let count = as_many_boxes (plain_problem problem) c.args.slot c.args.boxes.now c.requires in
    let sized = problem.sized in
    omega (arith, count, sized, ap (λ (xs : List ℕ). length xs) c.as_slice-sizes.ensures.value, length-map problem.tracks plain_track)

pub touching_of-requires-clause-pairs : goal.touching_of-requires-clause-pairs
touching_of-requires-clause-pairs c =
    let ground = c.args.ground.now in
    let case = plain_problem ground.problem.now in
    let count = as_many_boxes case c.args.slot c.args.boxes.now c.requires in
    subst (λ (n : ℕ). ArePairsOf n (map objects_of c.in-These.pairs.now)) (sym count)
    (subst (λ (sought : Sought). ArePairsOf (length case.tracks) (pairs_sought case sought)) c.in-These.is ground.are_pairs)

pub touching_of-requires-clause-few : goal.touching_of-requires-clause-few
touching_of-requires-clause-few c =
    let problem = c.args.ground.now.problem.now in
    let count = as_many_boxes (plain_problem problem) c.args.slot c.args.boxes.now c.requires in
    let few = problem.few in
    omega (arith, count, few, length-map problem.tracks plain_track)

pub touching_of-requires-clause-sized : goal.touching_of-requires-clause-sized
touching_of-requires-clause-sized c =
    let problem = c.args.ground.now.problem.now in
    let count = as_many_boxes (plain_problem problem) c.args.slot c.args.boxes.now c.requires in
    let sized = problem.sized in
    omega (arith, count, sized, ap (λ (xs : List ℕ). length xs) c.as_slice-sizes.ensures.value, length-map problem.tracks plain_track)

pub returns-in-These : goal.returns-in-These
returns-in-These c =
    let ground = c.args.ground.now in
    let case = plain_problem ground.problem.now in
    IfOk-weaker c.touching_of.result _ _
    (λ found same. touching_are case c.args.slot (map objects_of found.items) (sought_in ground) (map objects_of c.in-These.pairs.now) (plain_boxes c.args.boxes.now) c.as_slice-sizes.result.now
    (ap (pairs_sought case) (sym c.in-These.is)) c.requires c.as_slice-sizes.ensures.value same)
    c.touching_of.ensures

pub returns-in-All : goal.returns-in-All
returns-in-All c =
    let ground = c.args.ground.now in
    let case = plain_problem ground.problem.now in
    let count = as_many_boxes case c.args.slot c.args.boxes.now c.requires in
    IfOk-weaker c.find_touching.result _ _
    (λ found same. touching_are case c.args.slot (map objects_of found.items) (sought_in ground) (pairs_of (length c.args.boxes.now)) (plain_boxes c.args.boxes.now) c.as_slice-sizes.result.now
    (ap (λ (n : ℕ). pairs_of n) count ∙ ap (pairs_sought case) (sym c.in-All.is)) c.requires c.as_slice-sizes.ensures.value same)
    c.find_touching.ensures.value
