use Rattle.std.proofs.Common.{◌^◌, ◌≤◌, sym, arith}
use Rattle.cj_track.specs.Tracks.{plain_track}
use Rattle.cj_bezier.specs.Parts.{hulls_of}
use Rattle.cj_bezier.proofs.HullListLemmas.{have_parts, no_state}
use Rattle.cj_bezier.proofs.ShellRoundLemmas.{IsShellRound, shell_is, shell_of_parts, radii_hold}
use Rattle.cj_sieve.proofs.track_shell.shell.Goals as goal

round : (c : goal.After-radii) → IsShellRound (hulls_of (plain_track c.args.walk.track.now) c.args.walk.window.first.micros c.args.walk.window.last.micros) c.radii.result
round c =
    let round = c.gap_of_all.ensures.round in
    let shell = c.radii.ensures in
    record {
      inner = (round.inner c.radii.result.lo).0 shell.inner;
      greatest = λ r all. shell.greatest r ((round.inner r).1 all);
      outer = (round.outer c.radii.result.hi).0 shell.outer;
      least = λ r all. shell.least r ((round.outer r).1 all);
    }

pub returns-clause-value : goal.returns-clause-value
returns-clause-value c =
    let e = plain_track c.args.walk.track.now in
    let from = c.args.walk.window.first.micros in
    let to = c.args.walk.window.last.micros in
    shell_of_parts e from to c.radii.result (have_parts e from to c.gap_of_all.ensures.time) (round c)

pub returns-clause-holds : goal.returns-clause-holds
returns-clause-holds c m =
    let is = round c in
    radii_hold (plain_track c.args.walk.track.now) c.args.walk.window.first.micros c.args.walk.window.last.micros c.radii.result.lo c.radii.result.hi m c.gap_of_all.ensures.time is.inner is.outer

pub returns-clause-exact : goal.returns-clause-exact
returns-clause-exact c =
    let e = plain_track c.args.walk.track.now in
    let from = c.args.walk.window.first.micros in
    let to = c.args.walk.window.last.micros in
    let gap = c.gap_of_all.ensures in
    let shell = c.radii.ensures in
    let hi : c.radii.result.hi ≤ 10 ^ 18 = shell.least (10 ^ 18) gap.bounded in
    sym (shell_is e from to c.radii.result (λ empty. gap.some (no_state e from to empty)) (round c) hi (omega (arith, hi, shell.ordered)))

pub returns-clause-ordered : goal.returns-clause-ordered
returns-clause-ordered c = c.radii.ensures.ordered

pub returns-clause-time : goal.returns-clause-time
returns-clause-time c = c.gap_of_all.ensures.time

pub returns-clause-bounded : goal.returns-clause-bounded
returns-clause-bounded c = c.radii.ensures.least (10 ^ 18) c.gap_of_all.ensures.bounded
