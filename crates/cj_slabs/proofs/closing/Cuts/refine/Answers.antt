use Rattle.std.proofs.Common.{sym, subst}
use Rattle.cj_case.specs.Problems.{plain_problem}
use Rattle.cj_case.specs.declared.problem.Problem.{Problem}
use Rattle.cj_hermite.specs.Roots.{KeepPieces}
use Rattle.cj_hermite.proofs.WholeLemmas.{first_whole, second_whole}
use Rattle.cj_slabs.proofs.closing.Cuts.refine.Goals as goal

pub keep-requires-clause-whole : goal.keep-requires-clause-whole
keep-requires-clause-whole c =
    let cell = c.args.cell in
    first_whole (plain_problem c.args.self.now) cell.pair.a cell.pair.b cell.first.micros cell.last.micros c.requires.pieces

pub keep-requires-2-clause-whole : goal.keep-requires-2-clause-whole
keep-requires-2-clause-whole c =
    let cell = c.args.cell in
    second_whole (plain_problem c.keep.new.self) cell.pair.a cell.pair.b cell.first.micros cell.last.micros
    (subst (λ (p : Problem). KeepPieces (plain_problem p) cell.pair.a cell.pair.b cell.first.micros cell.last.micros) (sym c.keep.ensures) c.requires.pieces)
