use Rattle.std.proofs.Common.{map, take}
use Rattle.std.specs.Prelude.{◌≡◌, option_map}
use Rattle.cj_again.proofs.places_of.places.Given as goal

-- the places of the objects so far
abbrev pub invariant-loop-ends : goal.invariant-loop-ends
invariant-loop-ends l = l.places.items ≡ map (option_map (λ e. e.first)) (take l.ends-index l.ends-items)
