use Rattle.std.proofs.Common.{◌≡◌, take, map}
use Rattle.cj_sizes.specs.Sizes as spec
use Rattle.cj_sizes.specs.Sizes.{sizes_of}
use Rattle.cj_sizes.proofs.radii.radii_of.Given as goal

abbrev pub invariant-loop-id : goal.invariant-loop-id
invariant-loop-id l = l.radii.items ≡ map (λ id. spec.radius_of (sizes_of l.lines) id.now) (take l.id-index l.ids)
