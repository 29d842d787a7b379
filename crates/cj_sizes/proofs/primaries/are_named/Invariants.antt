use Rattle.std.proofs.Common.{◌≡◌, List, ℕ, Bor, map, take}
use Rattle.cj_sizes.specs.Primaries.{has_id}
use Rattle.cj_sizes.proofs.primaries.are_named.Given as goal

abbrev pub invariant-loop-id : goal.invariant-loop-id
invariant-loop-id l = l.marks.items ≡ map (λ (id : Bor (List ℕ)). has_id l.named id.now) (take l.id-index l.ids)
