use Rattle.std.proofs.Common.{FitsSigned, to_z-of_z, rules, ◌∙◌}
use Rattle.std.specs.Int.{w128}
use Rattle.cj_interval.proofs.SignLemmas.{end_read}
use Rattle.cj_interval.proofs.span.ends_of_four.Goals as goal

pub corner-low_low-requires : goal.corner-low_low-requires
corner-low_low-requires c = record {
  first = end_read c.args.first.lo c.requires.first_low;
  second = end_read c.args.second.lo c.requires.second_low;
}

pub corner-low_high-requires : goal.corner-low_high-requires
corner-low_high-requires c = record {
  first = end_read c.args.first.lo c.requires.first_low;
  second = end_read c.args.second.hi c.requires.second_high;
}

pub corner-high_low-requires : goal.corner-high_low-requires
corner-high_low-requires c = record {
  first = end_read c.args.first.hi c.requires.first_high;
  second = end_read c.args.second.lo c.requires.second_low;
}

pub corner-high_high-requires : goal.corner-high_high-requires
corner-high_high-requires c = record {
  first = end_read c.args.first.hi c.requires.first_high;
  second = end_read c.args.second.hi c.requires.second_high;
}

pub returns-clause-lower : goal.returns-clause-lower
returns-clause-lower c =
    let f1 : FitsSigned w128 c.args.first.lo = search rules in
    let f2 : FitsSigned w128 c.args.first.hi = search rules in
    let f3 : FitsSigned w128 c.args.second.lo = search rules in
    let f4 : FitsSigned w128 c.args.second.hi = search rules in
    let g1 : FitsSigned w128 c.corner-low_low.result = record { sfits = c.corner-low_low.type_inv } in
    let g2 : FitsSigned w128 c.corner-low_high.result = record { sfits = c.corner-low_high.type_inv } in
    let g3 : FitsSigned w128 c.corner-high_low.result = record { sfits = c.corner-high_low.type_inv } in
    let g4 : FitsSigned w128 c.corner-high_high.result = record { sfits = c.corner-high_high.type_inv } in
    let k : FitsSigned w128 c.least_of.result = record { sfits = c.least_of.type_inv } in
    let e1 = simp to_z-of_z at c.corner-low_low.ensures in
    let e2 = simp to_z-of_z at c.corner-low_high.ensures in
    let e3 = simp to_z-of_z at c.corner-high_low.ensures in
    let e4 = simp to_z-of_z at c.corner-high_high.ensures in
    let d = simp to_z-of_z at c.least_of.ensures in
    to_z-of_z k ∙ d ∙ simp (e1, e2, e3, e4)

pub returns-clause-upper : goal.returns-clause-upper
returns-clause-upper c =
    let f1 : FitsSigned w128 c.args.first.lo = search rules in
    let f2 : FitsSigned w128 c.args.first.hi = search rules in
    let f3 : FitsSigned w128 c.args.second.lo = search rules in
    let f4 : FitsSigned w128 c.args.second.hi = search rules in
    let g1 : FitsSigned w128 c.corner-low_low.result = record { sfits = c.corner-low_low.type_inv } in
    let g2 : FitsSigned w128 c.corner-low_high.result = record { sfits = c.corner-low_high.type_inv } in
    let g3 : FitsSigned w128 c.corner-high_low.result = record { sfits = c.corner-high_low.type_inv } in
    let g4 : FitsSigned w128 c.corner-high_high.result = record { sfits = c.corner-high_high.type_inv } in
    let k : FitsSigned w128 c.greatest_of.result = record { sfits = c.greatest_of.type_inv } in
    let e1 = simp to_z-of_z at c.corner-low_low.ensures in
    let e2 = simp to_z-of_z at c.corner-low_high.ensures in
    let e3 = simp to_z-of_z at c.corner-high_low.ensures in
    let e4 = simp to_z-of_z at c.corner-high_high.ensures in
    let d = simp to_z-of_z at c.greatest_of.ensures in
    to_z-of_z k ∙ d ∙ simp (e1, e2, e3, e4)
