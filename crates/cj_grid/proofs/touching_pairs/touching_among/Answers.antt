use Rattle.std.proofs.Common.{◌≡◌, List, Result, Ok, Err, Vec, Global, map, filter, length, ap, ◌∙◌}
use Rattle.std.specs.Prelude.{IfOk, None}
use Rattle.std.specs.declared.alloc.AllocError.{AllocError}
use Rattle.cj_case.specs.declared.pair.Pair.{Pair}
use Rattle.cj_case.specs.Pairs.{objects_of, pairs_of}
use Rattle.cj_grid.specs.declared.slot_objects.SlotObjects.{SlotObjects}
use Rattle.cj_grid.specs.Among.{touch_among}
use Rattle.cj_grid.specs.Found.{unrepeated}
use Rattle.cj_grid.proofs.FoundLemmas.{found_sorted}
use Rattle.cj_grid.proofs.touching_pairs.touching_among.Goals as goal

pub returns-clause-value : goal.returns-clause-value
returns-clause-value g c = go c.without_repeats.result c.without_repeats.ensures
  where
    objects : SlotObjects
    objects = c.args.objects.now

    sorted : unrepeated None (map objects_of c.deref.result.now) ≡ filter (touch_among objects) (pairs_of (length objects.boxes.now))
    sorted = ap (λ (ps : List Pair). unrepeated None (map objects_of ps)) c.deref.ensures.value
        ∙ found_sorted objects.thr objects.sizes.now objects.boxes.now c.in_ok-found.found.items c.sort.new.self.items c.sort.ensures.permutation c.in_ok-sort.ensures.sorted c.in_ok-found.ensures.touching c.in_ok-found.ensures.found

    go : (r : Result (Vec Pair Global) AllocError) → IfOk r (λ pairs. map objects_of pairs.items ≡ unrepeated None (map objects_of c.deref.result.now))
        → IfOk r (λ pairs. map objects_of pairs.items ≡ filter (touch_among objects) (pairs_of (length objects.boxes.now)))
    go (Err e) h = tt
    go (Ok pairs) h = h ∙ sorted
