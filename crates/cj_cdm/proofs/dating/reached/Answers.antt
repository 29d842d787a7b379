use Rattle.std.proofs.Common.{leb, rules}
use Rattle.std.proofs.lemmas.List.Sorted.{IsPartitionPoint-from_clause, IsPartitionedBy-leb}
use Rattle.cj_cdm.specs.declared.dated.Dated.{Dated}
use Rattle.cj_cdm.proofs.DatedLemmas.{epochs_rise, reached_from}
use Rattle.cj_cdm.proofs.dating.reached.Goals as goal

pub returns-clause-reached : goal.returns-clause-reached
returns-clause-reached c =
    let dated = c.args.dated.now in
    let m = c.args.at.micros in
    reached_from m c.partition_point.result dated
    (IsPartitionPoint-from_clause (λ (e : Dated). leb e.at.micros m) dated c.partition_point.result c.partition_point.ensures.partitioned
    (IsPartitionedBy-leb (λ (e : Dated). e.at.micros) dated m (epochs_rise dated c.requires)) (λ a r f h. search rules))
