use Rattle.std.proofs.Common.{◌≡◌, ℕ, rules, leb, leb-true, leb-false, true, false}
use Rattle.std.specs.List.Sorted.{IsPartitionPoint}
use Rattle.std.proofs.lemmas.List.Sorted.{IsPartitionPoint-from_clause, IsPartitionedBy-leb}
use Rattle.cj_epoch.proofs.leap.first_above.Goals as goal

point : (c : goal.After-partition_point) → IsPartitionPoint (λ (n : ℕ). leb n c.args.low ≡ true) (λ (n : ℕ). leb n c.args.low ≡ false) c.args.numbers.now c.partition_point.result
point c =
    let parted = IsPartitionedBy-leb (λ (n : ℕ). n) c.args.numbers.now c.args.low c.requires in
    IsPartitionPoint-from_clause (λ (n : ℕ). leb n c.args.low) c.args.numbers.now c.partition_point.result c.partition_point.ensures.partitioned parted (λ a r q k. search rules)

pub returns-clause-below : goal.returns-clause-below
returns-clause-below c = λ k d low high. leb-true _ _ ((point c).0 k d low high)

pub returns-clause-above : goal.returns-clause-above
returns-clause-above c = λ k d low high. leb-false _ _ ((point c).1 k d low high)
