use Rattle.std.proofs.Common.{refl, ap}
use Rattle.cj_hermite.specs.Ready.{curve_ready}
use Rattle.cj_bezier.specs.RootLeaves.{kind_between}
use Rattle.cj_bezier.specs.Verdicts.{kind_of}
use Rattle.cj_bezier.proofs.JudgeLemmas.{split_has_two}
use Rattle.cj_cells.proofs.ready_look.look_at.Goals as goal

pub halves-requires : goal.halves-requires
halves-requires c =
    let cell = c.args.cell in
    split_has_two (curve_ready c.args.a.now) (curve_ready c.args.b.now) c.args.thr cell.first.micros cell.last.micros c.requires.least cell.some c.requires.first_over c.requires.second_over c.in-Split.ensures

pub returns-in-Far-clause-kind : goal.returns-in-Far-clause-kind
unfolding kind_between
returns-in-Far-clause-kind c = ap kind_of c.in-Far.ensures

pub returns-in-Far-clause-closed : goal.returns-in-Far-clause-closed
returns-in-Far-clause-closed c = refl

pub returns-in-Near-clause-kind : goal.returns-in-Near-clause-kind
unfolding kind_between
returns-in-Near-clause-kind c = ap kind_of c.in-Near.ensures

pub returns-in-Near-clause-closed : goal.returns-in-Near-clause-closed
returns-in-Near-clause-closed c = refl

pub returns-in-Undecided-clause-kind : goal.returns-in-Undecided-clause-kind
unfolding kind_between
returns-in-Undecided-clause-kind c = ap kind_of c.in-Undecided.ensures

pub returns-in-Undecided-clause-closed : goal.returns-in-Undecided-clause-closed
returns-in-Undecided-clause-closed c = refl

pub returns-in-Split-clause-kind : goal.returns-in-Split-clause-kind
unfolding kind_between
returns-in-Split-clause-kind c = ap kind_of c.in-Split.ensures

pub returns-in-Split-clause-halved : goal.returns-in-Split-clause-halved
returns-in-Split-clause-halved c = c.halves.ensures
