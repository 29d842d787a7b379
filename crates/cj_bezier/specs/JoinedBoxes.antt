-- Joined boxes: how far boxes of spans and hulls reach together.
use Rattle.std.specs.Prelude.{List, map}
use Rattle.std.specs.Int.{int_min, int_max}
use Rattle.std.specs.List.{fold}
use Rattle.cj_hermite.specs.declared.box3.Box3.{Box3}
use Rattle.cj_bezier.specs.Hulls.{PlainHull, Ends}
use Rattle.cj_case.specs.Boxes.{Reach, PlainBox}
use Rattle.cj_bezier.specs.SlotBoxes.{least_four, greatest_four}

-- how far a box of spans reaches
abbrev pub reaches_of_spans : Box3 → PlainBox
reaches_of_spans b = record {
  x = record { least = b.x.lo; most = b.x.hi };
  y = record { least = b.y.lo; most = b.y.hi };
  z = record { least = b.z.lo; most = b.z.hi };
}

-- how far a hull reaches on an axis
abbrev pub reach_of_hull : Ends → Reach
reach_of_hull e = record { least = least_four e.low; most = greatest_four e.high }

-- the same on each axis
abbrev pub reaches_of_hull : PlainHull → PlainBox
reaches_of_hull h = record { x = reach_of_hull h.x; y = reach_of_hull h.y; z = reach_of_hull h.z }

-- how far hulls reach on an axis together with an earlier reach
abbrev pub reach_with : (PlainHull → Ends) → Reach → List PlainHull → Reach
reach_with axis r hs = record {
  least = fold int_min r.least (map (λ g. least_four (axis g).low) hs);
  most = fold int_max r.most (map (λ g. greatest_four (axis g).high) hs);
}

-- the same on each axis
abbrev pub reaches_with : PlainBox → List PlainHull → PlainBox
reaches_with r hs = record { x = reach_with (λ g. g.x) r.x hs; y = reach_with (λ g. g.y) r.y hs; z = reach_with (λ g. g.z) r.z hs }
