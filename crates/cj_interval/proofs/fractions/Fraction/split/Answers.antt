use Rattle.std.proofs.Common.{◌^◌, FitsSigned, to_z-of_z}
use Rattle.std.specs.Int.{w64}
use Rattle.cj_interval.proofs.FractionLemmas.{lifted, whole_within}
use Rattle.cj_interval.proofs.fractions.Fraction.split.Goals as goal

pub raised-requires-clause-high : goal.raised-requires-clause-high
raised-requires-clause-high c = c.args.self.now.high

pub raised-requires-clause-low : goal.raised-requires-clause-low
raised-requires-clause-low c = c.args.self.now.low

pub raised-requires-clause-within : goal.raised-requires-clause-within
raised-requires-clause-within c =
    let f : FitsSigned w64 c.args.d = c.ranges.d in
    rw (to_z-of_z f) c.requires

pub part-whole-requires : goal.part-whole-requires
part-whole-requires c = c.raised.ensures.small

pub returns-clause-rest : goal.returns-clause-rest
returns-clause-rest c = c.part-whole.ensures.rest

pub returns-clause-whole : goal.returns-clause-whole
returns-clause-whole c =
    let f : FitsSigned w64 c.args.d = c.ranges.d in
    let k : FitsSigned w64 c.lowered.result = record { sfits = c.lowered.type_inv } in
    let raised = simp to_z-of_z at c.raised.ensures.value in
    rw (to_z-of_z k, c.lowered.ensures)
    (lifted c.args.d c.raised.result c.args.self.now.lift c.args.self.now.at c.args.self.now.of c.args.self.now.shift c.part-whole.result.0 c.part-whole.result.1 raised c.args.self.now.shifted c.part-whole.ensures.whole)

pub returns-clause-within : goal.returns-clause-within
returns-clause-within c =
    whole_within c.args.d _ c.args.self.now.at c.args.self.now.of c.part-whole.result.1 (2 ^ 60) (returns-clause-whole c) c.part-whole.ensures.rest c.args.self.now.inside c.requires
