use Rattle.std.proofs.Common.{refl}
use Rattle.cj_checker.proofs.shells.read_on.Goals as goal

pub returns-then-read-clause-on : goal.returns-then-read-clause-on
returns-then-read-clause-on c = λ line. rw c.if-read.true refl

pub returns-clause-on : goal.returns-clause-on
returns-clause-on c = λ line. rw c.if-read.false (c.read_boxes.ensures.read line)
