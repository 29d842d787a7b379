use Rattle.std.proofs.Common.{◌<◌, map, length, ◌∙◌, arith}
use Rattle.std.specs.Prelude.{option_map}
use Rattle.std.proofs.lemmas.List.{length-map}
use Rattle.std.proofs.lemmas.List.Sorted.{All-permutation, Contains-permutation}
use Rattle.cj_case.specs.Problems.{plain_problem}
use Rattle.cj_case.specs.Boxes.{plain_box, plain_boxes}
use Rattle.cj_cert.specs.declared.cert_lines.ShellLine.{ShellLine}
use Rattle.cj_checker.specs.declared.reach.Reach.{Reach}
use Rattle.cj_checker.specs.Sweeps.{moved, reach_of, side}
use Rattle.cj_checker.proofs.SweepLemmas.{met}
use Rattle.cj_checker.proofs.reaches.enter_by.Goals as goal

pub returns : goal.returns
returns c =
    let case = plain_problem c.args.problem.now in
    let shells = map (λ (line : ShellLine). line.shell) c.args.shells.now in
    let areas = plain_boxes c.args.boxes.now in
    let layout = c.args.layout in
    let n = length c.args.problem.now.tracks in
    record {
      rows_exist = All-permutation (λ (reach : Reach). reach.object < n) c.enter.new.reaches.items c.put_in_order.new.reaches.items c.put_in_order.ensures.same c.in_ok-enter.ensures.exist;
      others_exist = All-permutation (λ (reach : Reach). reach.object < n) c.enter-2.new.reaches.items c.put_in_order-2.new.reaches.items c.put_in_order-2.ensures.same c.in_ok-enter-2.ensures.exist;
      rows_order = c.put_in_order.ensures.order;
      others_order = c.put_in_order-2.ensures.order;
      meet = λ a b low high up is. met case shells areas layout c.put_in_order.new.reaches.items c.put_in_order-2.new.reaches.items c.args.first c.args.end n a b
          (length-map c.args.boxes.now (option_map plain_box) ∙ c.requires.boxes)
          (λ object low high own box h is stripe meets.
          Contains-permutation c.enter.new.reaches.items c.put_in_order.new.reaches.items (moved stripe (reach_of case object (side layout.axis own box))) c.put_in_order.ensures.same
          (c.in_ok-enter.ensures.entered object low high own box h is stripe meets))
          (λ object low high own box h is stripe meets.
          Contains-permutation c.enter-2.new.reaches.items c.put_in_order-2.new.reaches.items (moved stripe (reach_of case object (side layout.axis own box))) c.put_in_order-2.ensures.same
          (c.in_ok-enter-2.ensures.entered object low (omega arith) own box h is stripe meets))
          low high up is;
    }
