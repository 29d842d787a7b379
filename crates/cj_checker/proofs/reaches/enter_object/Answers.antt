use Rattle.std.proofs.Common.{Some, sym, ap, ◌∙◌}
use Rattle.std.specs.Prelude.{option_map}
use Rattle.std.proofs.lemmas.Option.{same_Some}
use Rattle.std.proofs.lemmas.Result.{on_ok_weaker}
use Rattle.cj_case.specs.Boxes.{plain_box}
use Rattle.cj_case.specs.Problems.{plain_problem}
use Rattle.cj_checker.specs.Sweeps.{reach_of, side}
use Rattle.cj_checker.proofs.SweepLemmas.{entered_by}
use Rattle.cj_checker.proofs.reaches.enter_object.Goals as goal

pub returns-in_default-clause-exist : goal.returns-in_default-clause-exist
returns-in_default-clause-exist c = λ old. old

pub returns-in_default-clause-kept : goal.returns-in_default-clause-kept
returns-in_default-clause-kept c = λ reach has. has

pub returns-clause-exist : goal.returns-clause-exist
returns-clause-exist c = on_ok_weaker c.enter_in_stripes.result (λ exist old. exist c.args.problem.now (rw c.reach_along-own.ensures.value c.requires) old) c.enter_in_stripes.ensures.exist

pub returns-clause-kept : goal.returns-clause-kept
returns-clause-kept c = c.enter_in_stripes.ensures.kept

pub returns-clause-entered : goal.returns-clause-entered
returns-clause-entered c =
    let case = plain_problem c.args.problem.now in
    let object = c.args.object in
    let s = c.in-Some.shell in
    let x = plain_box c.in-Some-area.area in
    on_ok_weaker c.enter_in_stripes.result (λ all own box named boxed. entered_by case object s own x box c.args.layout c.enter_in_stripes.new.reaches.items
    c.reach_along-own.result c.reach_along-across.result
    (same_Some s own (sym c.in-Some.is ∙ named)) (same_Some x box (ap (option_map plain_box) (sym c.in-Some-area.is) ∙ boxed))
    c.reach_along-own.ensures.value
    (c.reach_along-across.ensures.value ∙ (λ i. reach_of case object (side (c.across.ensures i) s x))) all)
    c.enter_in_stripes.ensures.entered
