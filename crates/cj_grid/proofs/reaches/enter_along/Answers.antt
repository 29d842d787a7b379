use Rattle.std.proofs.Common.{◌<◌, ◌≤◌, ℕ, List, length, sym, subst}
use Rattle.std.specs.Prelude.{All, count_by, is_some}
use Rattle.std.specs.List.{Contains}
use Rattle.cj_grid.specs.Among.{wide_among}
use Rattle.cj_grid.specs.Sweeps.{narrow_among}
use Rattle.cj_grid.proofs.SweepLemmas.{both_few, listed_few, met, narrow_exist, wide_exist_too}
use Rattle.cj_grid.proofs.reaches.enter_along.Goals as goal

pub longest_along-longest-requires : goal.longest_along-longest-requires
longest_along-longest-requires c = record { exist = subst (λ (os : List ℕ). All (λ object. object < length c.args.objects.now.boxes.now) os) (sym c.requires.others) (narrow_exist c.args.objects.now) }

pub enter-requires-clause-exist : goal.enter-requires-clause-exist
enter-requires-clause-exist c = subst (λ (os : List ℕ). All (λ object. object < length c.args.objects.now.boxes.now) os) (sym c.requires.wide) (wide_exist_too c.args.objects.now)

pub enter-requires-2-clause-exist : goal.enter-requires-2-clause-exist
enter-requires-2-clause-exist c = subst (λ (os : List ℕ). All (λ object. object < length c.args.objects.now.boxes.now) os) (sym c.requires.others) (narrow_exist c.args.objects.now)

pub returns : goal.returns
returns c =
    let objects = c.args.objects.now in
    let listed = listed_few objects in
    let wide : length c.in_ok-enter.field-0.items ≤ length (wide_among objects) =
    subst (λ (os : List ℕ). length c.in_ok-enter.field-0.items ≤ length os) c.requires.wide c.in_ok-enter.ensures.few in
    let others : length c.in_ok-enter-2.field-0.items ≤ length (narrow_among objects) =
    subst (λ (os : List ℕ). length c.in_ok-enter-2.field-0.items ≤ length os) c.requires.others c.in_ok-enter-2.ensures.few in
    record {
      wide_exist = c.in_ok-enter.ensures.exist;
      others_exist = c.in_ok-enter-2.ensures.exist;
      wide_order = c.in_ok-enter.ensures.order;
      others_order = c.in_ok-enter-2.ensures.order;
      wide_few = wide;
      all_few = both_few (length c.in_ok-enter.field-0.items) (length c.in_ok-enter-2.field-0.items) (length (wide_among objects)) (length (narrow_among objects)) (count_by is_some objects.boxes.now) wide others listed;
      meet = λ a b up touch either. met objects c.args.axis c.longest_along-longest.result (record { wide = c.in_ok-enter.field-0; others = c.in_ok-enter-2.field-0 })
          (record {
            wide = λ object has. c.in_ok-enter.ensures.entered object (subst (λ (os : List ℕ). Contains os object) (sym c.requires.wide) has);
            others = λ object has. c.in_ok-enter-2.ensures.entered object (subst (λ (os : List ℕ). Contains os object) (sym c.requires.others) has);
            longer = λ object has. c.longest_along-longest.ensures.value object (subst (λ (os : List ℕ). Contains os object) (sym c.requires.others) has);
          })
          a b touch either;
    }
