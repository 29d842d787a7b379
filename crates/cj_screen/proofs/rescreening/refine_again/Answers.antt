use Rattle.std.proofs.Common.{◌∙◌, ◌≤◌, Ok, Err, List, length, ap, sym, arith}
use Rattle.std.proofs.lemmas.List.{length-map}
use Rattle.std.proofs.lemmas.Result.{err_from_is_err_and}
use Rattle.cj_case.specs.Problems.{plain_problem}
use Rattle.cj_case.specs.Leaves.{PlainLeaf, plain_leaf}
use Rattle.cj_cells.specs.Lists.{list_candidates}
use Rattle.cj_screen.specs.Errors.{refined_status}
use Rattle.cj_screen.proofs.ReportLemmas.{between_refined, stops_refined}
use Rattle.cj_screen.proofs.RescreenLemmas.{base_stops, leaves_there, new_stops}
use Rattle.cj_screen.proofs.rescreening.refine_again.Goals as goal

pub returns-in_err-before : goal.returns-in_err-before
returns-in_err-before g c =
    let s = c.in_err-before.field-0.0 in
    let p = err_from_is_err_and c.from_residual.result c.from_residual.ensures.1 in
    rw (p.1, p.2) (record {
      between = c.in_err-before.ensures.between;
      told = base_stops c.args.wanted.leaves (plain_problem c.args.base.now) (plain_problem c.args.new.now) s c.in_err-before.ensures.told;
      refined = tt;
      kept = tt;
      ticks = tt;
    })

pub returns-in-Ok : goal.returns-in-Ok
returns-in-Ok g c =
    let old = plain_problem c.args.base.now in
    let new = plain_problem c.args.new.now in
    let after = c.in-Ok.ensures in
    let refined = after.refined in
    let leaves = c.in-Ok.again.found.leaves in
    let few : length (list_candidates new) ≤ c.args.wanted.leaves = omega (arith, after.few, ap (λ (ss : List PlainLeaf). length ss) refined.leaves, length-map leaves.items plain_leaf) in
    record {
      between = tt;
      told = leaves_there c.args.wanted.leaves old new _ c.in_ok-before.ensures.told few ∙ ap (λ (ss : List PlainLeaf). Ok ss) (sym refined.leaves);
      refined = refined;
      kept = after.kept;
      ticks = after.ticks;
    }

pub returns-in-Err : goal.returns-in-Err
returns-in-Err g c =
    let old = plain_problem c.args.base.now in
    let new = plain_problem c.args.new.now in
    let limit = c.args.wanted.leaves in
    let error = c.in-Err.error in
    rw c.refused.ensures (record {
      between = between_refined limit error;
      told = new_stops limit old new _ (refined_status limit error) c.in_ok-before.ensures.told
          (stops_refined limit (list_candidates new) error (λ is. c.in-Err.ensures.too_many (ap (λ e. Err e) is)));
      refined = tt;
      kept = tt;
      ticks = tt;
    })
