use Rattle.std.proofs.Common.{◌∙◌, ap, FitsSigned, to_z-of_z}
use Rattle.std.specs.Prelude.{neg_ℤ}
use Rattle.std.specs.Int.{w64}
use Rattle.cj_hermite.proofs.ReachLemmas.{from_sides, place_read, rate_sides}
use Rattle.cj_hermite.proofs.readying.axis.Goals as goal

pub speed-requires : goal.speed-requires
speed-requires c = rate_sides c.args.v0 c.requires.first_rate

pub turned-requires : goal.turned-requires
turned-requires c = rate_sides c.args.v1 c.requires.last_rate

pub speed-requires-2 : goal.speed-requires-2
speed-requires-2 c = rate_sides c.turned.result c.turned.ensures.within

pub invariant_of-result : goal.invariant_of-result
invariant_of-result c = record {
  from_within = place_read c.args.p0 (from_sides 500000000000000000 c.args.p0 c.requires.first_place);
  to_within = place_read c.args.p1 (from_sides 500000000000000000 c.args.p1 c.requires.last_place);
}

pub returns-clause-from : goal.returns-clause-from
returns-clause-from c = to_z-of_z c.ranges.p0

pub returns-clause-to : goal.returns-clause-to
returns-clause-to c = to_z-of_z c.ranges.p1

pub returns-clause-out : goal.returns-clause-out
returns-clause-out c = c.speed.ensures ∙ to_z-of_z c.ranges.v0

pub returns-clause-back : goal.returns-clause-back
returns-clause-back c =
    let f : FitsSigned w64 c.turned.result = record { sfits = c.turned.type_inv } in
    c.speed-2.ensures ∙ to_z-of_z f ∙ c.turned.ensures.value ∙ ap neg_ℤ (to_z-of_z c.ranges.v1)
