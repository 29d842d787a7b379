use Rattle.std.proofs.Common.{leb, rules, ℕ}
use Rattle.std.proofs.lemmas.List.Sorted.{IsPartitionPoint-from_clause, IsPartitionedBy-leb}
use Rattle.cj_hermite.proofs.SearchLemmas.{AreStarted, are_started}
use Rattle.cj_hermite.proofs.searches.started.Goals as goal
use Rattle.cj_hermite.proofs.searches.started.Goals.{After-partition_point}

parts : (c : After-partition_point) → AreStarted c.args.index c.partition_point.result c.args.starts.now
parts c =
    let starts = c.args.starts.now in
    are_started c.args.index c.partition_point.result starts
    (IsPartitionPoint-from_clause (λ (start : ℕ). leb start c.args.index) starts c.partition_point.result c.partition_point.ensures.partitioned
    (IsPartitionedBy-leb (λ (start : ℕ). start) starts c.args.index c.requires) (λ a r f h. search rules))

pub returns-clause-started : goal.returns-clause-started
returns-clause-started c = (parts c).started

pub returns-clause-rest : goal.returns-clause-rest
returns-clause-rest c = (parts c).rest
