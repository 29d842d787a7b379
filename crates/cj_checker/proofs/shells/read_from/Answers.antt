use Rattle.std.proofs.Common.{◌≡◌, false, map, sym, subst}
use Rattle.std.specs.Prelude.{IfSome}
use Rattle.cj_case.specs.Problems.{plain_problem}
use Rattle.cj_cert.specs.Certificates.{plain_box_line}
use Rattle.cj_checker.specs.declared.boxes_read.BoxesRead.{BoxesRead}
use Rattle.cj_checker.specs.BoxesRead.{IsReadOn}
use Rattle.cj_checker.proofs.shells.read_from.Goals as goal

-- what was tried, where it begins in the same place
pub returns-then-tried-read-clause-on : goal.returns-then-tried-read-clause-on
returns-then-tried-read-clause-on c =
    let read = c.args.read in
    let same : record { passed = c.args.tried.from; failed = false } ≡ read = λ i. record { passed = c.if-tried-read.true i; failed = sym c.if-read.false i } in
    subst (λ (r : BoxesRead). IfSome c.args.tried.more (IsReadOn (plain_problem c.args.problem.now) c.args.object (map plain_box_line c.args.boxes.now) r)) same c.requires.tried.on
