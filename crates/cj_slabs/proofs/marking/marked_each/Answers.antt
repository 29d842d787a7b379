use Rattle.std.proofs.Common.{◌≡◌, ◌∙◌, Ok, ap, arith, get_or, length, subst, sym}
use Rattle.std.specs.Prelude.{IfOk, filter}
use Rattle.std.specs.List.Sorted.{IsPermutation}
use Rattle.std.proofs.lemmas.List.{get_or-map, length-map}
use Rattle.std.proofs.lemmas.Result.{IfOk-weaker}
use Rattle.cj_slabs.specs.Marks.{is_marked}
use Rattle.cj_slabs.proofs.MarkLemmas.{each_marked}
use Rattle.cj_slabs.proofs.marking.marked_each.Goals as goal

pub returns : goal.returns
returns g c =
    let slabs = c.args.slabs.now in
    let outputs = c.in_ok-lists.lists in
    let done = c.in_ok-lists.ensures in
    IfOk-weaker c.all_made.result _ _
    (λ lists same.
    let many : length lists.items ≡ length slabs = sym (length-map lists.items Ok) ∙ ap length same ∙ sym outputs.ok.0 ∙ done.len in
    each_marked slabs lists.items many (λ i list slab lt.
    let is = ap (λ rs. get_or rs i (Ok list)) (sym same) ∙ get_or-map Ok lists.items i list (Ok list) (omega (arith, many, lt)) in
    subst (λ r. IfOk r (λ marks. IsPermutation (filter is_marked (get_or slabs i slab).items) marks.items)) is ((done.each i (Ok list) lt).1.met slab)))
    c.all_made.ensures
