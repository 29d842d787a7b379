use Rattle.std.proofs.Common.{arith, rules}
use Rattle.std.proofs.lemmas.Result.{err_from_is_err_and}
use Rattle.cj_meet.proofs.EncounterLemmas.{all_of, encounters_more}
use Rattle.cj_meet.proofs.SpanLemmas.{exact_spans}
use Rattle.cj_meet.proofs.meeting.encounters.Goals as goal

pub loop-at-preserved : goal.loop-at-preserved
loop-at-preserved c = record {
  found = encounters_more c.args.leaves.now c.loop-at.at c.index-leaves-at.result c.loop-at.found.items c.add.new.found.items c.requires.in_order (omega arith) (search rules) c.in_ok-add.ensures.found c.loop-at.invariant.found;
  within = c.in_ok-add.ensures.within;
}

pub returns-clause-exact_spans : goal.returns-clause-exact_spans
returns-clause-exact_spans c = exact_spans c.args.leaves.now

pub returns-in_err-add-clause-exact_spans : goal.returns-in_err-add-clause-exact_spans
returns-in_err-add-clause-exact_spans c = exact_spans c.args.leaves.now

pub add-requires-clause-room : goal.add-requires-clause-room
add-requires-clause-room c = omega arith

pub add-requires-clause-within : goal.add-requires-clause-within
add-requires-clause-within c = c.loop-at.invariant.within

pub returns-in_err-add-clause-groups : goal.returns-in_err-add-clause-groups
returns-in_err-add-clause-groups c = rw (err_from_is_err_and c.from_residual.result c.from_residual.ensures.1).1 tt

pub returns-in_err-add-clause-described : goal.returns-in_err-add-clause-described
returns-in_err-add-clause-described c = rw (err_from_is_err_and c.from_residual.result c.from_residual.ensures.1).1 tt

pub returns-clause-groups : goal.returns-clause-groups
returns-clause-groups c = (all_of c.args.leaves.now c.loop-at.at c.loop-at.found.items c.loop-at-test.false c.loop-at.invariant.found).groups

pub returns-clause-described : goal.returns-clause-described
returns-clause-described c = (all_of c.args.leaves.now c.loop-at.at c.loop-at.found.items c.loop-at-test.false c.loop-at.invariant.found).described
