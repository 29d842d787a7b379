use Rattle.std.proofs.Common.{◌≡◌, ◌∙◌, Ok, ap, arith, get_or, length, subst, sym}
use Rattle.std.specs.Prelude.{IfOk}
use Rattle.std.proofs.lemmas.List.{get_or-map, length-map}
use Rattle.std.proofs.lemmas.Result.{IfOk-weaker}
use Rattle.cj_threads.specs.Runs.{IsMerged}
use Rattle.cj_threads.proofs.RunLemmas.{merged_each}
use Rattle.cj_threads.proofs.merging.merge_each.Goals as goal

pub returns : goal.returns
returns g c =
    let place = g.T.Placed.place_of in
    let ranges = c.args.ranges.now in
    let outputs = c.in_ok-lists.lists in
    let done = c.in_ok-lists.ensures in
    IfOk-weaker c.all_made.result _ _
    (λ lists same.
    let many : length lists.items ≡ length ranges = sym (length-map lists.items Ok) ∙ ap length same ∙ sym outputs.ok.0 ∙ done.len in
    merged_each place ranges lists.items many (λ i list range lt.
    let is = ap (λ rs. get_or rs i (Ok list)) (sym same) ∙ get_or-map Ok lists.items i list (Ok list) (omega (arith, many, lt)) in
    subst (λ r. IfOk r (IsMerged place (get_or ranges i range))) is ((done.each i (Ok list) lt).1.met range)))
    c.all_made.ensures
