use Rattle.std.proofs.Common.{arith}
use Rattle.cj_interval.proofs.FractionLemmas.{guess_below, guess_near}
use Rattle.cj_interval.proofs.fractions.Fraction.part.Goals as goal

pub overflow_sub-rest : goal.overflow_sub-rest
overflow_sub-rest c =
    rw (c.from-3.ensures, c.from-4.ensures, c.from-5.ensures, c.from-6.ensures, c.from.ensures, c.from-2.ensures)
    (guess_below c.args.self.now.scaled c.args.self.now.of c.args.self.now.at c.args.u c.args.self.now.below)

pub overflow_cast-rest : goal.overflow_cast-rest
overflow_cast-rest c =
    let near = guess_near c.args.self.now.scaled c.args.self.now.of c.args.self.now.at c.args.u c.args.self.now.above c.requires c.args.self.now.some in
    rw (c.from-3.ensures, c.from-4.ensures, c.from-5.ensures, c.from-6.ensures, c.from.ensures, c.from-2.ensures) (omega arith)

pub returns-then-rest-self-clause-whole : goal.returns-then-rest-self-clause-whole
returns-then-rest-self-clause-whole c =
    let below = guess_below c.args.self.now.scaled c.args.self.now.of c.args.self.now.at c.args.u c.args.self.now.below in
    rw (c.from-3.ensures, c.from-4.ensures, c.from-5.ensures, c.from-6.ensures, c.from.ensures, c.from-2.ensures) (omega arith)

pub returns-else-rest-self-clause-rest : goal.returns-else-rest-self-clause-rest
returns-else-rest-self-clause-rest c =
    let near = guess_near c.args.self.now.scaled c.args.self.now.of c.args.self.now.at c.args.u c.args.self.now.above c.requires c.args.self.now.some in
    rw (c.from-3.ensures, c.from-4.ensures, c.from-5.ensures, c.from-6.ensures, c.from.ensures, c.from-2.ensures) (omega arith)

pub returns-else-rest-self-clause-whole : goal.returns-else-rest-self-clause-whole
returns-else-rest-self-clause-whole c =
    let below = guess_below c.args.self.now.scaled c.args.self.now.of c.args.self.now.at c.args.u c.args.self.now.below in
    let large = rw (c.from-3.ensures, c.from-4.ensures, c.from-5.ensures, c.from-6.ensures, c.from.ensures, c.from-2.ensures) at c.if-rest-self.false in
    rw (c.from-3.ensures, c.from-4.ensures, c.from-5.ensures, c.from-6.ensures, c.from.ensures, c.from-2.ensures) (omega arith)
