use Rattle.std.proofs.Common.{All, get_or, take, ◌∙◌, sym, subst, arith}
use Rattle.std.proofs.lemmas.List.{take_all, take_more}
use Rattle.std.proofs.lemmas.List.Elements.{All-map, All-push}
use Rattle.cj_track.specs.declared.track.Track.{Track}
use Rattle.cj_track.specs.PlainTracks.{PlainTrack}
use Rattle.cj_track.specs.Tracks.{plain_track}
use Rattle.cj_case.specs.Problems.{plain_problem}
use Rattle.cj_hermite.specs.Pieces.{pieces_of}
use Rattle.cj_rtn.specs.Exact.{IsTame}
use Rattle.cj_rtn.proofs.TrackLemmas.{all_exact}
use Rattle.cj_rtn.proofs.laws.exactness.Goals as goal

pub returns : goal.returns
returns c =
    let tracks = c.as_slice-tracks.result.now in
    let all = subst (All (λ (t : Track). All IsTame (pieces_of (plain_track t))))
    (take_all c.loop-track.track-index tracks (omega arith) ∙ c.as_slice-tracks.ensures.value) c.loop-track.invariant in
    all_exact (plain_problem c.args.problem.now) (All-map (λ (e : PlainTrack). All IsTame (pieces_of e)) plain_track c.args.problem.now.tracks all)

pub loop-track-init : goal.loop-track-init
loop-track-init c = λ k d lt. absurd (omega arith)

pub loop-track-preserved : goal.loop-track-preserved
loop-track-preserved c =
    let tracks = c.as_slice-tracks.result.now in
    let at = c.loop-track.track-index in
    let tame = λ (t : Track). All IsTame (pieces_of (plain_track t)) in
    subst (All tame) (sym (take_more tracks at c.track-item.result c.loop-track-test.true))
    (All-push tame (take at tracks) (get_or tracks at c.track-item.result) c.loop-track.invariant (subst tame c.track-item.is c.rules_of.ensures))
