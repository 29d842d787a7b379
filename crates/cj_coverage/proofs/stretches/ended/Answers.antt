use Rattle.std.proofs.Common.{ltb, rules}
use Rattle.std.proofs.lemmas.List.Sorted.{IsPartitionPoint-from_clause, IsPartitionedBy-ltb}
use Rattle.cj_track.specs.declared.segment.Segment.{Segment}
use Rattle.cj_hermite.proofs.SpanLemmas.{lasts_rise, ended_from}
use Rattle.cj_coverage.proofs.stretches.ended.Goals as goal

pub returns : goal.returns
returns c =
    let segments = c.args.segments.now in
    let m = c.args.at.micros in
    ended_from m c.partition_point.result segments c.partition_point.ensures.bound
    (IsPartitionPoint-from_clause (λ (s : Segment). ltb s.last.micros m) segments c.partition_point.result c.partition_point.ensures.partitioned
    (IsPartitionedBy-ltb (λ (s : Segment). s.last.micros) segments m (lasts_rise segments c.requires)) (λ a r f h. search rules))
