use Rattle.std.proofs.Common.{FitsSigned, rules, ◌*ℤ◌}
use Rattle.std.specs.Int.{w128}
use Rattle.cj_interval.proofs.MachineLemmas.{read_known}
use Rattle.cj_interval.proofs.SignLemmas.{both_negative, end_read, first_negative, from_zero, none_negative, second_negative, to_zero}
use Rattle.cj_interval.proofs.span.product_ends.Goals as goal

pub corner-requires : goal.corner-requires
corner-requires c = record {
  first = end_read c.args.first.lo c.requires.first_low;
  second = end_read c.args.second.lo c.requires.second_low;
}

pub corner-requires-then-second-ge0 : goal.corner-requires-then-second-ge0
corner-requires-then-second-ge0 c = record {
  first = end_read c.args.first.hi c.requires.first_high;
  second = end_read c.args.second.hi c.requires.second_high;
}

pub returns-then-second-ge0 : goal.returns-then-second-ge0
returns-then-second-ge0 c =
    let f = c.args.first in
    let s = c.args.second in
    let fl : FitsSigned w128 f.lo = search rules in
    let fh : FitsSigned w128 f.hi = search rules in
    let sl : FitsSigned w128 s.lo = search rules in
    let sh : FitsSigned w128 s.hi = search rules in
    let ends = none_negative f.lo f.hi s.lo s.hi f.ordered s.ordered (from_zero f.lo fl c.if-first-ge0.true) (from_zero s.lo sl c.if-second-ge0.true) in
    record {
      lower = read_known ◌*ℤ◌ f.lo s.lo c.corner.result _ fl sl (record { sfits = c.corner.type_inv }) c.corner.ensures ends.low;
      upper = read_known ◌*ℤ◌ f.hi s.hi c.corner-then-second-ge0.result _ fh sh (record { sfits = c.corner-then-second-ge0.type_inv }) c.corner-then-second-ge0.ensures ends.high;
    }

pub corner-requires-then-second-le0 : goal.corner-requires-then-second-le0
corner-requires-then-second-le0 c = record {
  first = end_read c.args.first.hi c.requires.first_high;
  second = end_read c.args.second.lo c.requires.second_low;
}

pub corner-requires-then-second-le0-2 : goal.corner-requires-then-second-le0-2
corner-requires-then-second-le0-2 c = record {
  first = end_read c.args.first.lo c.requires.first_low;
  second = end_read c.args.second.hi c.requires.second_high;
}

pub returns-then-second-le0 : goal.returns-then-second-le0
returns-then-second-le0 c =
    let f = c.args.first in
    let s = c.args.second in
    let fl : FitsSigned w128 f.lo = search rules in
    let fh : FitsSigned w128 f.hi = search rules in
    let sl : FitsSigned w128 s.lo = search rules in
    let sh : FitsSigned w128 s.hi = search rules in
    let ends = second_negative f.lo f.hi s.lo s.hi f.ordered s.ordered (from_zero f.lo fl c.if-first-ge0-2.true) (to_zero s.hi sh c.if-second-le0.true) in
    record {
      lower = read_known ◌*ℤ◌ f.hi s.lo c.corner-then-second-le0.result _ fh sl (record { sfits = c.corner-then-second-le0.type_inv }) c.corner-then-second-le0.ensures ends.low;
      upper = read_known ◌*ℤ◌ f.lo s.hi c.corner-then-second-le0-2.result _ fl sh (record { sfits = c.corner-then-second-le0-2.type_inv }) c.corner-then-second-le0-2.ensures ends.high;
    }

pub corner-requires-then-second-ge0-2 : goal.corner-requires-then-second-ge0-2
corner-requires-then-second-ge0-2 c = record {
  first = end_read c.args.first.lo c.requires.first_low;
  second = end_read c.args.second.hi c.requires.second_high;
}

pub corner-requires-then-second-ge0-2-2 : goal.corner-requires-then-second-ge0-2-2
corner-requires-then-second-ge0-2-2 c = record {
  first = end_read c.args.first.hi c.requires.first_high;
  second = end_read c.args.second.lo c.requires.second_low;
}

pub returns-then-second-ge0-2 : goal.returns-then-second-ge0-2
returns-then-second-ge0-2 c =
    let f = c.args.first in
    let s = c.args.second in
    let fl : FitsSigned w128 f.lo = search rules in
    let fh : FitsSigned w128 f.hi = search rules in
    let sl : FitsSigned w128 s.lo = search rules in
    let sh : FitsSigned w128 s.hi = search rules in
    let ends = first_negative f.lo f.hi s.lo s.hi f.ordered s.ordered (to_zero f.hi fh c.if-first-le0.true) (from_zero s.lo sl c.if-second-ge0-2.true) in
    record {
      lower = read_known ◌*ℤ◌ f.lo s.hi c.corner-then-second-ge0-2.result _ fl sh (record { sfits = c.corner-then-second-ge0-2.type_inv }) c.corner-then-second-ge0-2.ensures ends.low;
      upper = read_known ◌*ℤ◌ f.hi s.lo c.corner-then-second-ge0-2-2.result _ fh sl (record { sfits = c.corner-then-second-ge0-2-2.type_inv }) c.corner-then-second-ge0-2-2.ensures ends.high;
    }

pub corner-requires-then-second-le0-2-2 : goal.corner-requires-then-second-le0-2-2
corner-requires-then-second-le0-2-2 c = record {
  first = end_read c.args.first.hi c.requires.first_high;
  second = end_read c.args.second.hi c.requires.second_high;
}

pub corner-requires-then-second-le0-2-3 : goal.corner-requires-then-second-le0-2-3
corner-requires-then-second-le0-2-3 c = record {
  first = end_read c.args.first.lo c.requires.first_low;
  second = end_read c.args.second.lo c.requires.second_low;
}

pub returns-then-second-le0-2 : goal.returns-then-second-le0-2
returns-then-second-le0-2 c =
    let f = c.args.first in
    let s = c.args.second in
    let fl : FitsSigned w128 f.lo = search rules in
    let fh : FitsSigned w128 f.hi = search rules in
    let sl : FitsSigned w128 s.lo = search rules in
    let sh : FitsSigned w128 s.hi = search rules in
    let ends = both_negative f.lo f.hi s.lo s.hi f.ordered s.ordered (to_zero f.hi fh c.if-first-le0-2.true) (to_zero s.hi sh c.if-second-le0-2.true) in
    record {
      lower = read_known ◌*ℤ◌ f.hi s.hi c.corner-then-second-le0-2-2.result _ fh sh (record { sfits = c.corner-then-second-le0-2-2.type_inv }) c.corner-then-second-le0-2-2.ensures ends.low;
      upper = read_known ◌*ℤ◌ f.lo s.lo c.corner-then-second-le0-2-3.result _ fl sl (record { sfits = c.corner-then-second-le0-2-3.type_inv }) c.corner-then-second-le0-2-3.ensures ends.high;
    }

pub ends_of_four-requires : goal.ends_of_four-requires
ends_of_four-requires c = record {
  first_low = c.requires.first_low;
  first_high = c.requires.first_high;
  second_low = c.requires.second_low;
  second_high = c.requires.second_high;
}
