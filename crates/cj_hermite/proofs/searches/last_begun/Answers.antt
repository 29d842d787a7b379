use Rattle.std.proofs.Common.{leb, rules}
use Rattle.std.proofs.lemmas.List.Sorted.{IsPartitionPoint-from_clause, IsPartitionedBy-leb}
use Rattle.cj_track.specs.declared.segment.Segment.{Segment}
use Rattle.cj_hermite.proofs.SearchLemmas.{begun_from, segments_rise}
use Rattle.cj_hermite.proofs.searches.last_begun.Goals as goal

pub returns : goal.returns
returns c =
    let segments = c.args.segments.now in
    let m = c.args.at.micros in
    begun_from m c.partition_point.result segments c.checked_sub.result c.checked_sub.ensures c.partition_point.ensures.bound
    (IsPartitionPoint-from_clause (λ (s : Segment). leb s.first.micros m) segments c.partition_point.result c.partition_point.ensures.partitioned
    (IsPartitionedBy-leb (λ (s : Segment). s.first.micros) segments m (segments_rise segments c.requires)) (λ a r f h. search rules))
