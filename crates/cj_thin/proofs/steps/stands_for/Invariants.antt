use Rattle.std.proofs.Common.{◌≡◌, ◌≤◌, ◌∷◌, map, drop}
use Rattle.cj_track.specs.Nodes.{AreSteps}
use Rattle.cj_track.specs.Tracks.{plain_node}
use Rattle.cj_track.specs.Useable.{last_tick}
use Rattle.cj_hermite.specs.Ready.{curve_ready}
use Rattle.cj_thin.specs.Thinned as spec
use Rattle.cj_thin.proofs.steps.stands_for.Given as goal

-- all pieces so far stay near, so the pieces that are left decide
abbrev pub invariant-loop-next : goal.invariant-loop-next
invariant-loop-next l = record {
  told : spec.all_near l.e (curve_ready l.step) (plain_node l.last ∷ map plain_node (drop l.next-index l.path)) ≡ spec.all_near l.e (curve_ready l.step) (plain_node l.fn.from ∷ map plain_node l.path);
  steps : AreSteps (l.last ∷ drop l.next-index l.path);
  from : l.fn.from.at.micros ≤ l.last.at.micros;
  to : last_tick l.last.at.micros (drop l.next-index l.path) ≡ last_tick l.fn.from.at.micros l.path;
}
