use Rattle.std.proofs.Common.{map}
use Rattle.std.specs.Prelude.{pos}
use Rattle.cj_cert.specs.declared.cert_lines.ShellLine.{ShellLine}
use Rattle.cj_checker.specs.declared.beside.Beside.{Beside}
use Rattle.cj_checker.proofs.BesideLemmas.{are_near}
use Rattle.cj_checker.proofs.sweep.append_near.Goals as goal

pub returns-then-are_apart-clause-candidate : goal.returns-then-are_apart-clause-candidate
returns-then-are_apart-clause-candidate c = λ old. old

pub returns-then-are_apart-clause-kept : goal.returns-then-are_apart-clause-kept
returns-then-are_apart-clause-kept c = λ a b has. has

pub returns-then-are_apart-clause-found : goal.returns-then-are_apart-clause-found
returns-then-are_apart-clause-found c a b up both is =
    let d : Beside = record { low = pos 0; high = pos 0 } in
    let not = c.are_apart.ensures d
    (are_near c.args.problem.now (map (λ (line : ShellLine). line.shell) c.args.shells.now) c.args.boxes.now c.args.besides.now c.args.one c.args.other a b d c.requires.besides both is) in
    absurd cc
