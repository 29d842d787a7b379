use Rattle.std.proofs.Common.{arith}
use Rattle.cj_hermite.proofs.LevelLemmas.{level-low_within, level-high_within}
use Rattle.cj_hermite.proofs.ReachLemmas.{rate_room, whole_short}
use Rattle.cj_hermite.proofs.rates.from_rates.Goals as goal

pub lerp-requires : goal.lerp-requires
lerp-requires c = record {
  some = c.requires.some;
  divisor = omega arith;
  inside = c.requires.inside;
  product = whole_short c.args.span c.requires.short;
  self_low = rate_room c.args.a.lo c.args.span c.requires.first.low c.requires.short;
  self_high = rate_room c.args.a.hi c.args.span c.requires.first.high c.requires.short;
  other_low = rate_room c.args.b.lo c.args.span c.requires.second.low c.requires.short;
  other_high = rate_room c.args.b.hi c.args.span c.requires.second.high c.requires.short;
}

pub returns-clause-lower : goal.returns-clause-lower
returns-clause-lower c = c.lerp.ensures.lower

pub returns-clause-upper : goal.returns-clause-upper
returns-clause-upper c = c.lerp.ensures.upper

pub returns-clause-within : goal.returns-clause-within
returns-clause-within c = record {
  low = rw c.lerp.ensures.lower (level-low_within c.args.a.lo c.args.b.lo c.args.span c.args.at 1 3144000000000000000000000 c.requires.some (omega arith) c.requires.inside c.requires.first.low c.requires.second.low);
  high = rw c.lerp.ensures.upper (level-high_within c.args.a.hi c.args.b.hi c.args.span c.args.at 1 3144000000000000000000000 c.requires.some (omega arith) c.requires.inside c.requires.first.high c.requires.second.high);
}
