use Rattle.std.proofs.Common.{◌≡◌, ◌*◌, length}
use Rattle.std.specs.Prelude.{All}
use Rattle.cj_case.specs.CaseLimits.{node_total}
use Rattle.cj_track.specs.declared.frame.Frame.TheVariants.{Eme2000}
use Rattle.cj_geometry_tests.proofs.crowds.objects.Given as goal

abbrev pub invariant-loop : goal.invariant-loop
invariant-loop l = record {
  many : length l.tracks.items ≡ l.counter;
  frames : All (λ track. track.frame ≡ Eme2000) l.tracks.items;
  nodes : node_total l.tracks.items ≡ 2 * l.counter;
}
