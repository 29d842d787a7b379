use Rattle.std.proofs.Common.{◌<◌, ◌++◌, Bool, [], ◌∷◌, List, Vec, Global, filter, length, sym, ap, subst, ◌∙◌, arith}
use Rattle.std.specs.Prelude.{not}
use Rattle.std.proofs.lemmas.List.{map_push, take_all}
use Rattle.std.proofs.lemmas.Result.{err_from_is_err_and}
use Rattle.cj_case.specs.declared.cell.Cell.{Cell}
use Rattle.cj_case.specs.Cells.{PlainCell, plain_cell, plain_cells}
use Rattle.cj_case.specs.Problems.{plain_problem}
use Rattle.cj_case.specs.Unchanged.{is_unchanged}
use Rattle.cj_again.proofs.SelectedLemmas.{left_out, selected}
use Rattle.cj_again.proofs.changed.select.Goals as goal
use Rattle.cj_again.proofs.changed.select.Goals.{then-not-is_unchanged+in_ok-push, else-not-is_unchanged}

pub loop-root-init : goal.loop-root-init
loop-root-init c = ap plain_cells c.new-some.ensures.items

pub is_unchanged-requires : goal.is_unchanged-requires
is_unchanged-requires c =
    let lt : c.loop-root.root-index < length c.args.roots.now = omega arith in
    subst (λ (r : Cell). r.pair.b < length c.args.matching.now.new.now.tracks) (sym c.root-item.is) (c.requires c.loop-root.root-index c.root-item.result lt)

pub returns : goal.returns
returns c =
    let old = plain_problem c.args.matching.now.old.now in
    let new = plain_problem c.args.matching.now.new.now in
    c.loop-root.invariant
    ∙ ap (λ (cells : List Cell). filter (λ root. not (is_unchanged old new (root.a, root.b))) (plain_cells cells)) (take_all c.loop-root.root-index c.args.roots.now (omega arith))

pub returns-in_err-push : goal.returns-in_err-push
returns-in_err-push c = rw (err_from_is_err_and c.from_residual.result c.from_residual.ensures.1).1 tt

pub loop-root-preserved : goal.loop-root-preserved
loop-root-preserved c =
    let old = plain_problem c.args.matching.now.old.now in
    let new = plain_problem c.args.matching.now.new.now in
    let test : PlainCell → Bool = λ r. not (is_unchanged old new (r.a, r.b)) in
    let roots = c.args.roots.now in
    let k = c.loop-root.root-index in
    let lt : k < length roots = omega arith in
    elim c.if-not-is_unchanged.branch [
      | then-not-is_unchanged+in_ok-push w ↦
          ap (λ (v : Vec Cell Global). plain_cells v.items) w.some-is
          ∙ ap plain_cells w.in_ok-push.ensures.items
          ∙ map_push plain_cell c.loop-root.some.items c.root-item.result
          ∙ ap (λ (rs : List PlainCell). rs ++ plain_cell c.root-item.result ∷ []) c.loop-root.invariant
          ∙ sym (selected plain_cell test roots k c.root-item.result lt c.root-item.is (ap not (sym c.is_unchanged.ensures ∙ w.if-not-is_unchanged.true)))
      | else-not-is_unchanged w ↦
          ap (λ (v : Vec Cell Global). plain_cells v.items) w.some-is
          ∙ c.loop-root.invariant
          ∙ sym (left_out plain_cell test roots k c.root-item.result lt c.root-item.is (ap not (sym c.is_unchanged.ensures ∙ w.if-not-is_unchanged.false)))
    ]
