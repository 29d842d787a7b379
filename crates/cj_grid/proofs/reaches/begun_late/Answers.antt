use Rattle.std.proofs.Common.{◌≡◌, ◌<◌, ◌≤◌, List, true, false, length, rules, sym, subst}
use Rattle.std.specs.Prelude.{int_lt}
use Rattle.std.specs.List.{Contains}
use Rattle.std.specs.List.Sorted.{IsPartitionPoint}
use Rattle.std.proofs.lemmas.List.Elements.{All-drop}
use Rattle.std.proofs.lemmas.List.Sorted.{IsPartitionPoint-from_clause}
use Rattle.cj_grid.specs.declared.reach.Reach.{Reach}
use Rattle.cj_grid.specs.Sweeps.{Exist, IsInOrder}
use Rattle.cj_grid.proofs.SweepLemmas.{below_parted, drop_in_order, kept_behind, rest_few, rest_is}
use Rattle.cj_grid.proofs.reaches.begun_late.Goals as goal
use Rattle.cj_grid.proofs.reaches.begun_late.Goals.{After-partition_point-before}

point : (c : After-partition_point-before) → let low = c.args.reach.now.earliest in
    IsPartitionPoint (λ (r : Reach). int_lt r.low low ≡ true) (λ (r : Reach). int_lt r.low low ≡ false) c.args.others.now c.partition_point-before.result
point c =
    let low = c.args.reach.now.earliest in
    IsPartitionPoint-from_clause (λ (r : Reach). int_lt r.low low) c.args.others.now c.partition_point-before.result c.partition_point-before.ensures.partitioned
    (below_parted low c.args.others.now c.requires) (λ a r f h. search rules)

pub returns-clause-exist : goal.returns-clause-exist
returns-clause-exist c objects are =
    subst (Exist objects) (sym (rest_is c.partition_point-before.result c.args.others.now))
    (All-drop (λ (reach : Reach). reach.object < length objects.boxes.now) c.partition_point-before.result c.args.others.now are)

pub returns-clause-order : goal.returns-clause-order
returns-clause-order c =
    subst IsInOrder (sym (rest_is c.partition_point-before.result c.args.others.now)) (drop_in_order c.partition_point-before.result c.args.others.now c.requires)

pub returns-clause-kept : goal.returns-clause-kept
returns-clause-kept c other has le =
    let part = (goal.at.returns-clause-kept c).After-partition_point-before in
    subst (λ (rs : List Reach). Contains rs other) (sym (rest_is c.partition_point-before.result c.args.others.now))
    (kept_behind c.args.reach.now.earliest c.partition_point-before.result c.args.others.now other (point part).0 has le)

pub returns-clause-few : goal.returns-clause-few
returns-clause-few c =
    subst (λ (rs : List Reach). length rs ≤ length c.args.others.now) (sym (rest_is c.partition_point-before.result c.args.others.now)) (rest_few c.partition_point-before.result c.args.others.now)
