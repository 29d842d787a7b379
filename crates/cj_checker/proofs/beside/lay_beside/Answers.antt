use Rattle.std.proofs.Common.{get_or, sym, subst, ◌∙◌, arith}
use Rattle.std.specs.Prelude.{option_map}
use Rattle.std.proofs.lemmas.List.{length-map}
use Rattle.cj_case.specs.Problems.{plain_problem}
use Rattle.cj_case.specs.Boxes.{plain_box, plain_boxes}
use Rattle.cj_checker.specs.declared.axis.Axis.{Axis}
use Rattle.cj_checker.specs.Besides.{IsBeside}
use Rattle.cj_checker.proofs.SweepLemmas.{area_read, boxed_exists}
use Rattle.cj_checker.proofs.BesideLemmas.{each_more}
use Rattle.cj_checker.proofs.beside.lay_beside.Goals as goal

pub loop-object-preserved : goal.loop-object-preserved
loop-object-preserved c =
    let i = c.loop-object.invariant in
    let object = c.loop-object.object in
    record {
      axis = i.axis;
      count = omega (arith, i.count, c.in_ok-push.ensures.len);
      each = each_more (plain_problem c.args.problem.now) c.args.axis (plain_boxes c.args.boxes.now) c.loop-object.besides.items.items c.push.new.self.items c.beside_of.result object
          i.count c.in_ok-push.ensures.items i.each
          (λ area is. c.beside_of.ensures area (sym (area_read c.args.boxes.now object c.index-boxes-object.result (omega arith) c.index-boxes-object.is) ∙ is));
    }

pub returns : goal.returns
returns c =
    let i = c.loop-object.invariant in
    let case = plain_problem c.args.problem.now in
    record {
      count = omega (arith, i.count);
      each = λ object area d is.
          let lt = boxed_exists (plain_boxes c.args.boxes.now) object area is in
          subst (λ (axis : Axis). IsBeside case axis object area (get_or c.loop-object.besides.items.items object d)) (sym i.axis)
          (i.each object (omega (arith, lt, length-map c.args.boxes.now (option_map plain_box))) area d is);
    }
