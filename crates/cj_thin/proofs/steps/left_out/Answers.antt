use Rattle.std.proofs.Common.{◌+◌, ◌∙◌, sym, arith}
use Rattle.cj_track.specs.Tracks.{plain_node}
use Rattle.cj_thin.specs.Thinned.{is_refused}
use Rattle.std.proofs.Common.{map}
use Rattle.cj_thin.proofs.StepLemmas.{steps_upto}
use Rattle.cj_thin.proofs.KeptLemmas.{tried_more, refused_here, none_refused, left_out_is}
use Rattle.cj_thin.proofs.steps.left_out.Goals as goal

pub is_allowed-requires-clause-steps : goal.is_allowed-requires-clause-steps
is_allowed-requires-clause-steps c = steps_upto (c.loop-count.count + 2) c.args.from c.args.behind.now c.requires.steps

pub returns-then-not-is_allowed-clause-value : goal.returns-then-not-is_allowed-clause-value
returns-then-not-is_allowed-clause-value c =
    let behind = c.args.behind.now in
    left_out_is c.args.e c.loop-count.count c.args.from behind
    (sym c.loop-count.invariant.tried
    ∙ refused_here c.args.e c.loop-count.count c.args.from behind c.is_allowed.result c.loop-count-test.true c.is_allowed.ensures c.if-not-is_allowed.true)

pub loop-count-preserved : goal.loop-count-preserved
loop-count-preserved c =
    let behind = c.args.behind.now in
    record {
      tried = tried_more c.args.e c.loop-count.count c.args.from behind c.is_allowed.result c.loop-count-test.true c.is_allowed.ensures c.if-not-is_allowed.false ∙ c.loop-count.invariant.tried;
      within = omega (arith, c.loop-count-test.true);
    }

pub returns-clause-value : goal.returns-clause-value
returns-clause-value c =
    let behind = c.args.behind.now in
    left_out_is c.args.e c.loop-count.count c.args.from behind
    (sym c.loop-count.invariant.tried ∙ none_refused c.loop-count.count behind (is_refused c.args.e (plain_node c.args.from) (map plain_node behind)) c.loop-count-test.false)
