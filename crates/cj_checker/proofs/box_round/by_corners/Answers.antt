use Rattle.std.proofs.Common.{◌≡◌, ◌∙◌, FitsSigned, rules, to_z, of_z, to_z-of_z}
use Rattle.std.specs.Prelude.{ℤ}
use Rattle.std.specs.Int.{w64, w128}
use Rattle.cj_checker.proofs.box_round.by_corners.Goals as goal

pub coordinate-requires : goal.coordinate-requires
coordinate-requires c = let f : FitsSigned w128 c.args.area.x.lo = search rules in rw (to_z-of_z f) c.requires.x.low

pub coordinate-requires-2 : goal.coordinate-requires-2
coordinate-requires-2 c = let f : FitsSigned w128 c.args.area.y.lo = search rules in rw (to_z-of_z f) c.requires.y.low

pub coordinate-requires-3 : goal.coordinate-requires-3
coordinate-requires-3 c = let f : FitsSigned w128 c.args.area.z.lo = search rules in rw (to_z-of_z f) c.requires.z.low

pub coordinate-requires-4 : goal.coordinate-requires-4
coordinate-requires-4 c = let f : FitsSigned w128 c.args.area.x.hi = search rules in rw (to_z-of_z f) c.requires.x.high

pub coordinate-requires-5 : goal.coordinate-requires-5
coordinate-requires-5 c = let f : FitsSigned w128 c.args.area.y.hi = search rules in rw (to_z-of_z f) c.requires.y.high

pub coordinate-requires-6 : goal.coordinate-requires-6
coordinate-requires-6 c = let f : FitsSigned w128 c.args.area.z.hi = search rules in rw (to_z-of_z f) c.requires.z.high

-- an end that was cut to 64 bits
read : (r z : ℤ) → FitsSigned w64 r → FitsSigned w128 z → r ≡ to_z w128 (of_z w128 z) → to_z w64 (of_z w64 r) ≡ z
read r z h f is = to_z-of_z h ∙ is ∙ to_z-of_z f

pub returns : goal.returns
returns c =
    let area = c.args.area in
    let xl : FitsSigned w128 area.x.lo = search rules in
    let yl : FitsSigned w128 area.y.lo = search rules in
    let zl : FitsSigned w128 area.z.lo = search rules in
    let xh : FitsSigned w128 area.x.hi = search rules in
    let yh : FitsSigned w128 area.y.hi = search rules in
    let zh : FitsSigned w128 area.z.hi = search rules in
    let x0 = read c.coordinate.result area.x.lo (record { sfits = c.coordinate.type_inv }) xl c.coordinate.ensures in
    let y0 = read c.coordinate-2.result area.y.lo (record { sfits = c.coordinate-2.type_inv }) yl c.coordinate-2.ensures in
    let z0 = read c.coordinate-3.result area.z.lo (record { sfits = c.coordinate-3.type_inv }) zl c.coordinate-3.ensures in
    let x1 = read c.coordinate-4.result area.x.hi (record { sfits = c.coordinate-4.type_inv }) xh c.coordinate-4.ensures in
    let y1 = read c.coordinate-5.result area.y.hi (record { sfits = c.coordinate-5.type_inv }) yh c.coordinate-5.ensures in
    let z1 = read c.coordinate-6.result area.z.hi (record { sfits = c.coordinate-6.type_inv }) zh c.coordinate-6.ensures in
    λ i. record {
      x = record { least = x0 i; most = x1 i };
      y = record { least = y0 i; most = y1 i };
      z = record { least = z0 i; most = z1 i };
    }

pub invariant_of-result : goal.invariant_of-result
invariant_of-result c =
    let area = c.args.area in
    let xl : FitsSigned w128 area.x.lo = search rules in
    let yl : FitsSigned w128 area.y.lo = search rules in
    let zl : FitsSigned w128 area.z.lo = search rules in
    let xh : FitsSigned w128 area.x.hi = search rules in
    let yh : FitsSigned w128 area.y.hi = search rules in
    let zh : FitsSigned w128 area.z.hi = search rules in
    let x0 = read c.coordinate.result area.x.lo (record { sfits = c.coordinate.type_inv }) xl c.coordinate.ensures in
    let y0 = read c.coordinate-2.result area.y.lo (record { sfits = c.coordinate-2.type_inv }) yl c.coordinate-2.ensures in
    let z0 = read c.coordinate-3.result area.z.lo (record { sfits = c.coordinate-3.type_inv }) zl c.coordinate-3.ensures in
    let x1 = read c.coordinate-4.result area.x.hi (record { sfits = c.coordinate-4.type_inv }) xh c.coordinate-4.ensures in
    let y1 = read c.coordinate-5.result area.y.hi (record { sfits = c.coordinate-5.type_inv }) yh c.coordinate-5.ensures in
    let z1 = read c.coordinate-6.result area.z.hi (record { sfits = c.coordinate-6.type_inv }) zh c.coordinate-6.ensures in
    record { x_ordered = rw (x0, x1) area.x.ordered; y_ordered = rw (y0, y1) area.y.ordered; z_ordered = rw (z0, z1) area.z.ordered }
