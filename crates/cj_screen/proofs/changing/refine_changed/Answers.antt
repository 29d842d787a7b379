use Rattle.std.proofs.Common.{◌∙◌, ◌≤◌, Ok, Err, List, length, ap, sym, arith}
use Rattle.std.proofs.lemmas.List.{length-map}
use Rattle.cj_case.specs.Problems.{plain_problem}
use Rattle.cj_case.specs.Leaves.{PlainLeaf, plain_leaf}
use Rattle.cj_outputs.specs.Outcome.{list_anew}
use Rattle.cj_screen.proofs.ReportLemmas.{between_refined, few_leaves, stops_refined}
use Rattle.cj_screen.proofs.changing.refine_changed.Goals as goal

pub returns-in-Ok : goal.returns-in-Ok
returns-in-Ok g c =
    let all = list_anew (plain_problem c.args.base.now) (plain_problem c.args.new.now) in
    let found = c.in-Ok.ensures in
    let few : length all ≤ c.args.wanted.leaves = omega (arith, found.within, ap (λ (ss : List PlainLeaf). length ss) found.value, length-map c.in-Ok.changed.leaves.items plain_leaf) in
    record {
      between = tt;
      told = few_leaves c.args.wanted.leaves all few ∙ ap (λ (ss : List PlainLeaf). Ok ss) (sym found.value);
      value = found.value;
      few = found.within;
      kept = found.kept;
      ticks = found.ticks;
    }

pub returns-in-Err : goal.returns-in-Err
returns-in-Err g c =
    let all = list_anew (plain_problem c.args.base.now) (plain_problem c.args.new.now) in
    let error = c.in-Err.error in
    rw c.refused.ensures (record {
      between = between_refined c.args.wanted.leaves error;
      told = stops_refined c.args.wanted.leaves all error (λ is. c.in-Err.ensures.too_many (ap (λ e. Err e) is));
      value = tt;
      few = tt;
      kept = tt;
      ticks = tt;
    })
