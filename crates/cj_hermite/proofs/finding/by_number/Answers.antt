use Rattle.std.proofs.Common.{◌-◌, ℕ, List, get_or, ap}
use Rattle.cj_hermite.proofs.PieceLemmas.{place_from}
use Rattle.cj_hermite.proofs.finding.by_number.Goals as goal

pub returns-clause-place : goal.returns-clause-place
returns-clause-place c =
    let k = c.segment_number-segment.result in
    place_from c.args.index k _ c.args.track.now.segments c.segment_number-segment.ensures.exists c.requires c.segment_number-segment.ensures.last
    (ap (λ (xs : List ℕ). c.args.index - get_or xs k 0) c.starts.ensures.value)
