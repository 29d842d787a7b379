use Rattle.std.proofs.Common.{ℕ, ◌<◌, None, Some, get_or, refl, sym, subst, ap, ◌∙◌}
use Rattle.cj_bezier.specs.SlotBoxes.{are_touching}
use Rattle.cj_grid.proofs.BucketLemmas.{earlier, touch_by_boxes}
use Rattle.cj_candidates.proofs.touching.pair_touches.Goals as goal

pub threshold_between-between-requires-clause-exists : goal.threshold_between-between-requires-clause-exists
threshold_between-between-requires-clause-exists c = subst (λ (n : ℕ). c.args.pair.b < n) (sym c.requires.sized) c.requires.exists

pub returns-in-Some-Some : goal.returns-in-Some-Some
returns-in-Some-Some c =
    let pair = c.args.pair in
    let both = c.in-Some-Some in
    c.box_touches.ensures
    ∙ ap (λ (t : ℕ). are_touching t both.a both.b) c.threshold_between-between.ensures.value
    ∙ touch_by_boxes c.args.thr c.args.sizes.now c.args.boxes.now pair.a pair.b (Some both.a) (Some both.b) c.index-boxes-pair.result c.index-boxes-pair-2.result (earlier pair.a pair.b _ pair.ordered c.requires.exists) c.requires.exists (sym c.index-boxes-pair.is ∙ both.is-0) (sym c.index-boxes-pair-2.is ∙ both.is-1)

-- ---- an object without a box

pub returns-in_default : goal.returns-in_default
returns-in_default c =
    let pair = c.args.pair in
    touch_by_boxes c.args.thr c.args.sizes.now c.args.boxes.now pair.a pair.b (Some c.in_default.field-0-0) None c.index-boxes-pair.result c.index-boxes-pair-2.result (earlier pair.a pair.b _ pair.ordered c.requires.exists) c.requires.exists (sym c.index-boxes-pair.is ∙ c.in_default.is-0) (sym c.index-boxes-pair-2.is ∙ c.in_default.is-1)

pub returns-in_default-2 : goal.returns-in_default-2
returns-in_default-2 c =
    let pair = c.args.pair in
    touch_by_boxes c.args.thr c.args.sizes.now c.args.boxes.now pair.a pair.b None (get_or c.args.boxes.now pair.b None) c.index-boxes-pair.result None (earlier pair.a pair.b _ pair.ordered c.requires.exists) c.requires.exists (sym c.index-boxes-pair.is ∙ c.in_default.is-0) refl
