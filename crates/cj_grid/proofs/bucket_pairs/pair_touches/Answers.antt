use Rattle.std.proofs.Common.{ℕ, ◌<◌, None, Some, get_or, refl, sym, subst, ap, ◌∙◌}
use Rattle.cj_bezier.specs.SlotBoxes.{are_touching}
use Rattle.cj_grid.proofs.BucketLemmas.{at_least, earlier, far_most, touch_by_boxes}
use Rattle.cj_grid.proofs.bucket_pairs.pair_touches.Goals as goal

pub threshold_between-between-requires-clause-exists : goal.threshold_between-between-requires-clause-exists
threshold_between-between-requires-clause-exists g c = subst (λ (n : ℕ). c.args.pair.b < n) (sym c.args.objects.now.sized) c.requires.exists

pub touches-requires-clause-least : goal.touches-requires-clause-least
touches-requires-clause-least g c = at_least _ _ _ c.args.objects.now.least c.threshold_between-between.ensures.least

pub touches-requires-clause-most : goal.touches-requires-clause-most
touches-requires-clause-most g c = far_most c.threshold_between-between.result c.threshold_between-between.ensures.most

pub returns-in-Some-Some-clause-value : goal.returns-in-Some-Some-clause-value
returns-in-Some-Some-clause-value g c =
    let objects = c.args.objects.now in
    let pair = c.args.pair in
    let both = c.in-Some-Some in
    c.touches.ensures.value
    ∙ ap (λ (t : ℕ). are_touching t both.a both.b) c.threshold_between-between.ensures.value
    ∙ touch_by_boxes objects.thr objects.sizes.now objects.boxes.now pair.a pair.b (Some both.a) (Some both.b) c.index-objects-pair.result c.index-objects-pair-2.result (earlier pair.a pair.b _ pair.ordered c.requires.exists) c.requires.exists both.is-0 both.is-1

-- ---- an object without a box

pub returns-in_default-clause-value : goal.returns-in_default-clause-value
returns-in_default-clause-value g c =
    let objects = c.args.objects.now in
    let pair = c.args.pair in
    touch_by_boxes objects.thr objects.sizes.now objects.boxes.now pair.a pair.b (Some c.in_default.field-0-0) None c.index-objects-pair.result c.index-objects-pair-2.result (earlier pair.a pair.b _ pair.ordered c.requires.exists) c.requires.exists c.in_default.is-0 c.in_default.is-1

pub returns-in_default-2-clause-value : goal.returns-in_default-2-clause-value
returns-in_default-2-clause-value g c =
    let objects = c.args.objects.now in
    let pair = c.args.pair in
    touch_by_boxes objects.thr objects.sizes.now objects.boxes.now pair.a pair.b None (get_or objects.boxes.now pair.b None) c.index-objects-pair.result None (earlier pair.a pair.b _ pair.ordered c.requires.exists) c.requires.exists c.in_default.is-0 refl
