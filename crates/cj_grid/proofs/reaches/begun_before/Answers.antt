use Rattle.std.proofs.Common.{◌≡◌, ◌<◌, true, false, length, rules}
use Rattle.std.specs.Prelude.{int_le}
use Rattle.std.specs.List.Sorted.{IsPartitionPoint}
use Rattle.std.proofs.lemmas.List.Elements.{All-take}
use Rattle.std.proofs.lemmas.List.Sorted.{IsPartitionPoint-from_clause}
use Rattle.cj_grid.specs.declared.reach.Reach.{Reach}
use Rattle.cj_grid.proofs.SweepLemmas.{front_few, within_parted, kept_before}
use Rattle.cj_grid.proofs.reaches.begun_before.Goals as goal
use Rattle.cj_grid.proofs.reaches.begun_before.Goals.{After-partition_point-within}

point : (c : After-partition_point-within) → let high = c.args.reach.now.high in
    IsPartitionPoint (λ (r : Reach). int_le r.low high ≡ true) (λ (r : Reach). int_le r.low high ≡ false) c.args.others.now c.partition_point-within.result
point c =
    let high = c.args.reach.now.high in
    IsPartitionPoint-from_clause (λ (r : Reach). int_le r.low high) c.args.others.now c.partition_point-within.result c.partition_point-within.ensures.partitioned
    (within_parted high c.args.others.now c.requires) (λ a r f h. search rules)

pub returns-clause-exist : goal.returns-clause-exist
returns-clause-exist c objects are = All-take (λ (reach : Reach). reach.object < length objects.boxes.now) c.partition_point-within.result c.args.others.now are

pub returns-clause-kept : goal.returns-clause-kept
returns-clause-kept c other has le =
    let part = (goal.at.returns-clause-kept c).After-partition_point-within in
    kept_before c.args.reach.now.high c.partition_point-within.result c.args.others.now other (point part).1 has le

pub returns-clause-few : goal.returns-clause-few
returns-clause-few c = front_few c.partition_point-within.result c.args.others.now
