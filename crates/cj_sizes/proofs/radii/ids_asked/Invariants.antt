use Rattle.std.proofs.Common.{◌≡◌, ℕ, ◌<◌, List, true, Bor, get_or}
use Rattle.cj_sizes.specs.Radii.{has_id}
use Rattle.cj_sizes.proofs.radii.ids_asked.Given as goal

abbrev pub invariant-loop-id : goal.invariant-loop-id
invariant-loop-id l = (k : ℕ) → k < l.id-index → (d : Bor (List ℕ)) → has_id l.asked (get_or l.ids k d).now ≡ true
