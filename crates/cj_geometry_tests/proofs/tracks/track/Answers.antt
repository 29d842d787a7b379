use Rattle.std.proofs.Common.{◌≡◌, ◌∙◌, List, [], ◌∷◌, length, ap, arith}
use Rattle.std.proofs.lemmas.Result.{IfOk-weaker}
use Rattle.cj_track.specs.declared.segment.Segment.{Segment}
use Rattle.cj_hermite.proofs.PieceLemmas.{pieces_through, count-through}
use Rattle.cj_geometry_tests.proofs.tracks.track.Goals as goal

pub returns : goal.returns
returns g c =
    let a = c.in_ok-short.field-0 in
    let b = c.in_ok-short-2.field-0 in
    let d = c.in_ok-long.field-0 in
    let e = c.in_ok-long-2.field-0 in
    let all : length (pieces_through (a ∷ b ∷ d ∷ e ∷ [])) ≡ 6 =
    omega (
      arith,
      count-through a (b ∷ d ∷ e ∷ []),
      count-through b (d ∷ e ∷ []),
      count-through d (e ∷ []),
      count-through e [],
      c.in_ok-short.ensures.count,
      c.in_ok-short-2.ensures.count,
      c.in_ok-long.ensures.count,
      c.in_ok-long-2.ensures.count,
    ) in
    IfOk-weaker c.named.result (λ track. track.segments ≡ c.in_ok-new.field-0) (λ track. length (pieces_through track.segments) ≡ 6)
    (λ track same. ap (λ (segments : List Segment). length (pieces_through segments)) (same ∙ c.in_ok-new.ensures ∙ c.in_ok-segments.ensures.items) ∙ all)
    c.named.ensures
