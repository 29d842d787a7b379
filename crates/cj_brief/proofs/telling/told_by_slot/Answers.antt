use Rattle.std.proofs.Common.{◌<◌, ◌∙◌, ℕ, ◌+◌, List, [], drop, length, map, replicate, take, ap, sym, subst, arith}
use Rattle.std.proofs.lemmas.List.{take_all}
use Rattle.cj_case.specs.Cells.{PlainCell, plain_cell, plain_cells}
use Rattle.cj_case.specs.declared.cell.Cell.{Cell}
use Rattle.cj_case.specs.Problems.{plain_problem}
use Rattle.cj_case.specs.Slots.{slot_count}
use Rattle.cj_hermite.specs.Roots.{slots_of}
use Rattle.cj_bezier.specs.RootLeaves.{leaves_of_root, leaves_of_roots}
use Rattle.cj_brief.specs.Telling.{IsListed, plain_lists, told_at}
use Rattle.cj_brief.proofs.TellingLemmas.{cut_is, given_back, none_told, root_more, roots_on, slots_of_lists, told_is, told_more}
use Rattle.cj_brief.proofs.telling.told_by_slot.Goals as goal

pub loop-root-init : goal.loop-root-init
loop-root-init c =
    let case = plain_problem c.args.problem.now in
    record {
      rest = c.requires.leaves;
      lists = c.in_ok-lists.ensures ∙ ap (λ n. replicate n []) c.slot_count.ensures ∙ none_told case 0 (slot_count case.first case.last);
    }

pub loop-root-preserved : goal.loop-root-preserved
loop-root-preserved c =
    let i = c.loop-root.invariant in
    let case = plain_problem c.args.problem.now in
    let roots = c.args.roots.now in
    let at = c.loop-root.root-index in
    let lt : at < length roots = omega arith in
    let root = plain_cell c.root-item.result in
    let listed : IsListed case root = subst (λ (cell : Cell). IsListed case (plain_cell cell)) (sym c.root-item.is) (c.requires.roots at c.root-item.result lt) in
    let rest = leaves_of_roots case (plain_cells (drop (at + 1) roots)) in
    let on = i.rest ∙ roots_on case roots at c.root-item.result lt c.root-item.is in
    let cut = cut_is c.loop-root.rest.now c.split_at.result.0.now c.split_at.result.1.now c.count_to.result (leaves_of_root case root) rest on (c.count_to.ensures.ends (leaves_of_root case root) rest listed.ends on)
    c.split_at.ensures.front c.split_at.ensures.back in
    let n = slot_count case.first case.last in
    let old = c.loop-root.lists.items in
    let new = c.tell_in.new.lists in
    let slot = c.slot_at-slot.result in
    let exists : slot < n = subst (λ (k : ℕ). k < n) (sym c.slot_at-slot.ensures) listed.slot in
    let lent = c.deref_mut.ensures.value in
    let told = told_more case (plain_cells (take at roots)) root n slot (plain_lists c.deref_mut.result.now) (plain_lists new) _ (ap plain_lists lent ∙ i.lists) c.slot_at-slot.ensures exists
    (told_is case root c.split_at.result.0.now cut.0) c.in_ok-tell_in.ensures.value in
    record {
      rest = cut.1;
      lists = ap plain_lists (given_back old new c.loop-root.lists.len (c.tell_in.ensures.len ∙ ap length lent) c.loop-root.lists.ok.0)
          ∙ told ∙ ap (λ (rs : List PlainCell). map (told_at case rs) (slots_of case)) (sym (root_more roots at c.root-item.result lt c.root-item.is));
    }

pub tell_in-requires : goal.tell_in-requires
tell_in-requires c =
    let i = c.loop-root.invariant in
    let case = plain_problem c.args.problem.now in
    let roots = c.args.roots.now in
    let at = c.loop-root.root-index in
    let root = plain_cell c.root-item.result in
    let listed : IsListed case root = subst (λ (cell : Cell). IsListed case (plain_cell cell)) (sym c.root-item.is) (c.requires.roots at c.root-item.result (omega arith)) in
    let many = slots_of_lists c.loop-root.lists.items (told_at case (plain_cells (take at roots))) (slot_count case.first case.last) i.lists in
    let whole = ap length c.deref_mut.ensures.value in
    omega (arith, listed.slot, c.slot_at-slot.ensures, many, whole)

pub returns : goal.returns
returns c =
    let case = plain_problem c.args.problem.now in
    c.loop-root.invariant.lists ∙ ap (λ (roots : List Cell). map (told_at case (plain_cells roots)) (slots_of case)) (take_all c.loop-root.root-index c.args.roots.now (omega arith))
