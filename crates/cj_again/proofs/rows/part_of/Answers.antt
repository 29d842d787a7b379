use Rattle.std.proofs.Common.{◌-◌, List, length, take, drop, leb, ltb, rules, sym, subst}
use Rattle.std.specs.List.Sorted.{IsNonDecreasingBy}
use Rattle.std.proofs.lemmas.List.Sorted.{IsNonDecreasingBy-drop, IsPartitionPoint-from_clause, IsPartitionedBy-leb, IsPartitionedBy-ltb}
use Rattle.cj_case.specs.declared.leaf.Leaf.{Leaf}
use Rattle.cj_again.proofs.RowLemmas.{second_sliced, seconds_rise, rest_is, sliced_rest}
use Rattle.cj_again.proofs.rows.part_of.Goals as goal

pub returns : goal.returns
returns c =
    let xs = c.args.row.now in
    let s = c.partition_point-start.result in
    let ys = take (length xs - s) (drop s xs) in
    let rise = seconds_rise xs c.requires in
    second_sliced xs (take c.partition_point-count.result ys) c.args.object
    (sliced_rest (λ (leaf : Leaf). leaf.cell.pair.b) c.args.object xs ys s c.partition_point-count.result (rest_is s xs)
    (IsPartitionPoint-from_clause (λ (leaf : Leaf). ltb leaf.cell.pair.b c.args.object) xs s c.partition_point-start.ensures.partitioned
    (IsPartitionedBy-ltb (λ (leaf : Leaf). leaf.cell.pair.b) xs c.args.object rise) (λ a r f h. search rules))
    c.partition_point-start.ensures.bound
    (IsPartitionPoint-from_clause (λ (leaf : Leaf). leb leaf.cell.pair.b c.args.object) ys c.partition_point-count.result c.partition_point-count.ensures.partitioned
    (IsPartitionedBy-leb (λ (leaf : Leaf). leaf.cell.pair.b) ys c.args.object
    (subst (λ (zs : List Leaf). IsNonDecreasingBy (λ (leaf : Leaf). leaf.cell.pair.b) zs) (sym (rest_is s xs)) (IsNonDecreasingBy-drop (λ (leaf : Leaf). leaf.cell.pair.b) s xs rise)))
    (λ a r f h. search rules))
    c.partition_point-count.ensures.bound)
