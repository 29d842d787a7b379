use Rattle.std.proofs.Common.{◌++◌, List, length, map, take, sym, ap, ◌∙◌, arith, append-nil, length-append}
use Rattle.std.proofs.lemmas.Result.{IfOk-from_err, err_from_is_err_and}
use Rattle.std.proofs.lemmas.List.{length-map, length-take, map_push, take_all}
use Rattle.cj_case.specs.declared.leaf.Leaf.{Leaf}
use Rattle.cj_case.specs.Leaves.{plain_leaf, plain_leaves}
use Rattle.cj_case.specs.Pairs.{objects_of}
use Rattle.cj_cells.proofs.WalkLemmas.{no_refusal, not_too_many}
use Rattle.cj_again.specs.PairLeaves.{renamed}
use Rattle.cj_again.proofs.PairLeafLemmas.{renamed_more}
use Rattle.cj_again.proofs.appending.append_as.Goals as goal

pub loop-leaf-init : goal.loop-leaf-init
loop-leaf-init c = record {
  value = sym (append-nil (plain_leaves c.args.leaves.now.items));
  room = c.requires;
}

pub returns-then-len-limit-clause-too_many : goal.returns-then-len-limit-clause-too_many
returns-then-len-limit-clause-too_many c _ =
    let i = c.loop-leaf.invariant in
    let part = c.args.part.now in
    let old = c.args.leaves.now.items in
    let at = c.loop-leaf.leaf-index in
    let so_far = ap length i.value in
    omega (
      arith,
      so_far,
      length-append (plain_leaves old) (map (renamed (objects_of c.args.pair)) (plain_leaves (take at part))),
      length-map (plain_leaves (take at part)) (renamed (objects_of c.args.pair)),
      length-map (take at part) plain_leaf,
      length-take at part,
      length-map old plain_leaf,
      length-map c.loop-leaf.leaves.items plain_leaf,
      c.args.leaves.now.ok.0,
      c.loop-leaf.leaves.ok.0,
    )

pub loop-leaf-preserved : goal.loop-leaf-preserved
loop-leaf-preserved c =
    let i = c.loop-leaf.invariant in
    let part = c.args.part.now in
    let at = c.loop-leaf.leaf-index in
    record {
      value = ap plain_leaves c.in_ok-push.ensures.items ∙ map_push plain_leaf c.loop-leaf.leaves.items _
          ∙ renamed_more (objects_of c.args.pair) (plain_leaves c.args.leaves.now.items) (plain_leaves c.loop-leaf.leaves.items) part at c.leaf-item.result (omega arith) c.leaf-item.is i.value;
      room = omega (arith, c.in_ok-push.ensures.len);
    }

pub returns-in_err-push-clause-ok : goal.returns-in_err-push-clause-ok
returns-in_err-push-clause-ok c = IfOk-from_err c.from_residual.result _ c.from_residual.ensures.0

pub returns-in_err-push-clause-within : goal.returns-in_err-push-clause-within
returns-in_err-push-clause-within c = IfOk-from_err c.from_residual.result _ c.from_residual.ensures.0

pub returns-in_err-push-clause-too_many : goal.returns-in_err-push-clause-too_many
returns-in_err-push-clause-too_many c is =
    let p = err_from_is_err_and c.from_residual.result c.from_residual.ensures.1 in
    absurd (not_too_many _ _ p.1 p.2 is)

pub returns-clause-ok : goal.returns-clause-ok
returns-clause-ok c =
    let part = c.args.part.now in
    c.loop-leaf.invariant.value
    ∙ ap (λ (ls : List Leaf). plain_leaves c.args.leaves.now.items ++ map (renamed (objects_of c.args.pair)) (plain_leaves ls)) (take_all c.loop-leaf.leaf-index part (omega arith))

pub returns-clause-within : goal.returns-clause-within
returns-clause-within c = c.loop-leaf.invariant.room

pub returns-clause-too_many : goal.returns-clause-too_many
returns-clause-too_many c is = absurd (no_refusal _ _ is)
