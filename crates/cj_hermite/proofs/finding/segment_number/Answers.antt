use Rattle.std.proofs.Common.{ℕ, List, length, get_or, ap, subst, sym, arith}
use Rattle.std.specs.List.Sorted.{IsNonDecreasing}
use Rattle.cj_hermite.proofs.SearchLemmas.{starts_rise}
use Rattle.cj_hermite.proofs.PieceLemmas.{length-starts, first_start, segment_fits}
use Rattle.cj_hermite.proofs.finding.segment_number.Goals as goal

pub last_started-requires-clause-some : goal.last_started-requires-clause-some
last_started-requires-clause-some c =
    omega (arith, ap (λ (starts : List ℕ). length starts) c.starts.ensures.value, length-starts 0 c.args.track.now.segments, c.starts.ensures.kept.some)

pub last_started-requires-clause-first : goal.last_started-requires-clause-first
last_started-requires-clause-first c =
    omega (arith, ap (λ (starts : List ℕ). get_or starts 0 0) c.starts.ensures.value, first_start c.args.track.now.segments)

pub last_started-requires-clause-rising : goal.last_started-requires-clause-rising
last_started-requires-clause-rising c =
    subst (λ (starts : List ℕ). IsNonDecreasing starts) (sym c.starts.ensures.value) (starts_rise 0 c.args.track.now.segments)

pub returns-clause-exists : goal.returns-clause-exists
returns-clause-exists c =
    omega (arith, ap (λ (starts : List ℕ). length starts) c.starts.ensures.value, length-starts 0 c.args.track.now.segments, c.last_started.ensures.exists)

pub returns-clause-fits : goal.returns-clause-fits
returns-clause-fits c = segment_fits c.last_started.result c.args.track.now.segments c.starts.ensures.kept (returns-clause-exists c)
