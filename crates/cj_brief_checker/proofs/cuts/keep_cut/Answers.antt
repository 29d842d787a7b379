use Rattle.std.proofs.lemmas.List.Elements.{All-push, All-same}
use Rattle.cj_case.specs.Problems.{plain_problem}
use Rattle.cj_brief_checker.specs.Cuts.{IsCut}
use Rattle.cj_brief_checker.proofs.cuts.keep_cut.Goals as goal

pub returns-in-Ok : goal.returns-in-Ok
returns-in-Ok c =
    let P = IsCut (plain_problem c.args.problem.now) in
    All-same P _ _ c.in-Ok.ensures.items (All-push P c.args.kept.now.items c.in-Some.cut c.requires.cuts c.in-Some.ensures)

pub returns-in-Err : goal.returns-in-Err
returns-in-Err c = All-same (IsCut (plain_problem c.args.problem.now)) _ _ c.in-Err.ensures.items c.requires.cuts
