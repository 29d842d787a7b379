use Rattle.std.proofs.Common.{◌≡◌, [], ◌∷◌, List, ap, length, subst, sym, arith}
use Rattle.std.specs.Prelude.{All}
use Rattle.std.proofs.lemmas.List.{length-append}
use Rattle.std.proofs.lemmas.List.Elements.{All-push}
use Rattle.std.proofs.lemmas.List.Sums.{sum_by_push}
use Rattle.cj_track.specs.Segments.{node_count}
use Rattle.cj_track.specs.declared.frame.Frame.TheVariants.{Eme2000}
use Rattle.cj_track.specs.declared.track.Track.{Track}
use Rattle.cj_case.specs.CaseLimits.{node_total}
use Rattle.cj_geometry_tests.proofs.crowds.objects.Goals as goal

pub loop-preserved : goal.loop-preserved
loop-preserved c =
    let i = c.loop.invariant in
    let tracks = c.loop.tracks.items in
    let track = c.in_ok-track.track in
    let more = c.in_ok-push.ensures.items in
    record {
      many = omega (arith, i.many, ap (λ (ts : List Track). length ts) more, length-append tracks (track ∷ []));
      frames = subst (All (λ (t : Track). t.frame ≡ Eme2000)) (sym more) (All-push (λ (t : Track). t.frame ≡ Eme2000) tracks track i.frames c.in_ok-track.ensures.frame);
      nodes = omega (arith, i.nodes, ap node_total more, sum_by_push (λ (t : Track). node_count t.segments) tracks track, c.in_ok-track.ensures.nodes);
    }
