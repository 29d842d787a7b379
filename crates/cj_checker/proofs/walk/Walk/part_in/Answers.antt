use Rattle.std.proofs.Common.{arith}
use Rattle.cj_track.specs.Tracks.{plain_track}
use Rattle.cj_checker.proofs.WalkLemmas.{hulls_found}
use Rattle.cj_checker.proofs.walk.Walk.part_in.Goals as goal

pub returns-then-self-last-clause-later : goal.returns-then-self-last-clause-later
returns-then-self-last-clause-later c = omega (arith, c.go_to.ensures.later, c.if-self-from.true)

pub returns-then-self-last-clause-hulls : goal.returns-then-self-last-clause-hulls
returns-then-self-last-clause-hulls c = rw (← c.if-self-from.true) (c.go_to.ensures.first c.args.last.micros c.if-self-last.true c.requires.inside)

pub returns-then-self-last-clause-walks : goal.returns-then-self-last-clause-walks
returns-then-self-last-clause-walks c = c.go_to.ensures

pub returns-clause-hulls : goal.returns-clause-hulls
returns-clause-hulls c = hulls_found (plain_track c.args.course.now.track.now) c.args.from.micros c.args.last.micros c.next_part.result c.next_part.ensures.first c.next_part.ensures.within

pub returns-clause-walks : goal.returns-clause-walks
returns-clause-walks c = let walk = c.go_to.ensures in record { later = walk.later; within = walk.within; first = walk.first; shown = walk.shown }
