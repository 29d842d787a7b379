use Rattle.cj_case.specs.Leaves.{plain_leaf}
use Rattle.cj_meet.proofs.EncounterLemmas.{encounters_past_far, past_later}
use Rattle.std.proofs.Common.{refl}
use Rattle.cj_meet.proofs.meeting.add.Goals as goal

pub returns-in-Far-clause-found : goal.returns-in-Far-clause-found
returns-in-Far-clause-found c = λ ss len ticks order before.
    encounters_past_far ss (plain_leaf c.args.leaf.now) c.args.found.now.items (rw c.in-Far.is refl) before

pub returns-in-Far-clause-within : goal.returns-in-Far-clause-within
returns-in-Far-clause-within c = past_later c.args.found.now.items c.args.at c.requires.within

pub add_marked-requires-clause-not_far : goal.add_marked-requires-clause-not_far
add_marked-requires-clause-not_far c = rw c.in-Near.is refl

pub add_marked-requires-clause-marked : goal.add_marked-requires-clause-marked
add_marked-requires-clause-marked c = rw c.in-Near.is refl

pub add_marked-requires-in-Undecided-clause-not_far : goal.add_marked-requires-in-Undecided-clause-not_far
add_marked-requires-in-Undecided-clause-not_far c = rw c.in-Undecided.is refl

pub add_marked-requires-in-Undecided-clause-marked : goal.add_marked-requires-in-Undecided-clause-marked
add_marked-requires-in-Undecided-clause-marked c = rw c.in-Undecided.is refl
