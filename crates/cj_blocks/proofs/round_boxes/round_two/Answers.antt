use Rattle.std.proofs.Common.{arith}
use Rattle.std.proofs.lemmas.Int.{ints, clamps}
use Rattle.cj_blocks.proofs.round_boxes.round_two.Goals as goal

pub invariant_of-result : goal.invariant_of-result
invariant_of-result c =
    let least = c.least_corner.ensures in
    let most = c.most_corner.ensures in
    let x = c.args.a.x_ordered in
    let y = c.args.a.y_ordered in
    let z = c.args.a.z_ordered in
    record {
      x_ordered = omega (arith, ints, clamps, least.x, most.x);
      y_ordered = omega (arith, ints, clamps, least.y, most.y);
      z_ordered = omega (arith, ints, clamps, least.z, most.z);
    }

pub returns : goal.returns
returns c = λ i. record {
  x = record { least = c.least_corner.ensures.x i; most = c.most_corner.ensures.x i };
  y = record { least = c.least_corner.ensures.y i; most = c.most_corner.ensures.y i };
  z = record { least = c.least_corner.ensures.z i; most = c.most_corner.ensures.z i };
}
