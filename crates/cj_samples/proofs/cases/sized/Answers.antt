use Rattle.std.proofs.Common.{◌≡◌, List, map, length, refl, ap, ◌∙◌}
use Rattle.cj_track.specs.declared.track.Track.{Track}
use Rattle.cj_track.specs.Tracks.{plain_track}
use Rattle.cj_case.specs.PlainProblems.{PlainProblem}
use Rattle.cj_samples.proofs.cases.sized.Goals as goal

case_same : (c d : PlainProblem) → c.tracks ≡ d.tracks → c.first ≡ d.first → c.last ≡ d.last → c.threshold ≡ d.threshold → c.sizes ≡ d.sizes → c.primaries ≡ d.primaries → c ≡ d
case_same c d tracks first last threshold sizes primaries =
    λ i. record { tracks = tracks i; first = first i; last = last i; threshold = threshold i; sizes = sizes i; primaries = primaries i }

pub returns-clause-tracks : goal.returns-clause-tracks
returns-clause-tracks c = ap (λ (ts : List Track). length ts) (c.new.ensures ∙ c.in_ok-vec.ensures.items)

pub returns-clause-slots : goal.returns-clause-slots
returns-clause-slots c = rw (c.seconds.ensures.first, c.seconds.ensures.last) refl

pub returns-clause-threshold : goal.returns-clause-threshold
returns-clause-threshold c = refl

pub returns-clause-sizes : goal.returns-clause-sizes
returns-clause-sizes c = c.new-2.ensures ∙ c.in_ok-vec-2.ensures.items

pub returns-clause-value : goal.returns-clause-value
returns-clause-value c =
    case_same _ _ (ap (λ (ts : List Track). map plain_track ts) (c.new.ensures ∙ c.in_ok-vec.ensures.items)) c.seconds.ensures.first c.seconds.ensures.last refl
    (c.new-2.ensures ∙ c.in_ok-vec-2.ensures.items) c.all.ensures
