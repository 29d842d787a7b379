use Rattle.std.proofs.Common.{◌≡◌, ◌∙◌, arith}
use Rattle.cj_track.specs.Tracks.{plain_node}
use Rattle.cj_hermite.specs.Ready.{curve_ready}
use Rattle.cj_thin.specs.Thinned.{curve_between}
use Rattle.cj_thin.proofs.StepLemmas.{end_is, step_over}
use Rattle.cj_thin.proofs.KeptLemmas.{too_many, too_long, by_its_pieces}
use Rattle.cj_thin.proofs.steps.is_allowed.Goals as goal

pub returns-then-path-gt-MAX_PIECES : goal.returns-then-path-gt-MAX_PIECES
returns-then-path-gt-MAX_PIECES c = too_many c.args.e c.args.from c.args.path.now (omega (arith, c.if-path-gt-MAX_PIECES.true))

pub since-requires : goal.since-requires
since-requires c =
    let end = end_is c.args.from c.args.path.now c.index-path-path.result c.requires.steps c.requires.some c.index-path-path.is in
    omega (arith, end.later)

pub returns-then-since-gt-HOUR : goal.returns-then-since-gt-HOUR
returns-then-since-gt-HOUR c =
    let end = end_is c.args.from c.args.path.now c.index-path-path.result c.requires.steps c.requires.some c.index-path-path.is in
    too_long c.args.e c.args.from c.index-path-path.result c.args.path.now (omega (arith, c.if-path-gt-MAX_PIECES.false)) end
    (omega (arith, c.since.ensures, c.if-since-gt-HOUR.true))

pub between-requires-clause-rises : goal.between-requires-clause-rises
between-requires-clause-rises c =
    let end = end_is c.args.from c.args.path.now c.index-path-path.result c.requires.steps c.requires.some c.index-path-path.is in
    end.later

pub stands_for-requires-clause-over : goal.stands_for-requires-clause-over
stands_for-requires-clause-over c =
    let a = c.args.from in
    let t = c.index-path-path.result in
    let end = end_is a c.args.path.now t c.requires.steps c.requires.some c.index-path-path.is in
    let curve : curve_ready c.ready-step.result ≡ curve_between (plain_node a) (plain_node t) = c.ready-step.ensures ∙ c.between.ensures in
    step_over (curve_ready c.ready-step.result) a t c.args.path.now end curve

pub returns : goal.returns
returns c =
    let a = c.args.from in
    let t = c.index-path-path.result in
    let end = end_is a c.args.path.now t c.requires.steps c.requires.some c.index-path-path.is in
    by_its_pieces c.args.e a t c.args.path.now (curve_ready c.ready-step.result) c.stands_for.result (omega (arith, c.if-path-gt-MAX_PIECES.false)) end
    (omega (arith, c.since.ensures, c.if-since-gt-HOUR.false)) (c.ready-step.ensures ∙ c.between.ensures) c.stands_for.ensures
