use Rattle.std.proofs.Common.{ℕ, List, ap, sym, ◌∙◌, slice_index_or}
use Rattle.std.specs.Prelude.{ℤ, pos}
use Rattle.std.specs.Int.{int_min}
use Rattle.cj_bezier.specs.Hulls.{lows}
use Rattle.cj_bezier.specs.Squares.{from_zero, part_down, least_part}
use Rattle.cj_bezier.proofs.PartLemmas.{least_step, sized, read_sized, read_value, floor_div-one, least_in_pairs}
use Rattle.cj_bezier.proofs.squares.least_square.Goals as goal

abbrev get : List ℤ → ℕ → ℤ
get e k = slice_index_or e k (pos 0)

pub from_zero-requires : goal.from_zero-requires
from_zero-requires c =
    let e = lows c.args.gap.now.terms in
    let s0 = sized c.lesser.result (int_min (part_down e 0) (part_down e 6)) (c.lesser.ensures.value ∙ sym (ap (λ (z : ℤ). int_min z (part_down e 6)) (floor_div-one (get e 0)) ∙ ap (λ (z : ℤ). int_min (get e 0) z) (floor_div-one (get e 6)))) c.lesser.ensures.within in
    let s1 = least_step c.min.result _ _ _ _ s0 (sized _ (int_min (part_down e 1) (part_down e 5)) c.lesser_part.ensures.value c.lesser_part.ensures.within) c.min.ensures.value in
    let s2 = least_step c.min-2.result _ _ _ _ s1 (sized _ (int_min (part_down e 2) (part_down e 4)) c.lesser_part-2.ensures.value c.lesser_part-2.ensures.within) c.min-2.ensures.value in
    let s3 = least_step c.min-least.result _ _ _ _ s2 (sized _ (int_min (part_down e 3) (part_down e 3)) c.lesser_part-3.ensures.value c.lesser_part-3.ensures.within) c.min-least.ensures.value in
    read_sized _ _ s3

pub returns-clause-value : goal.returns-clause-value
unfolding least_part
returns-clause-value c =
    let e = lows c.args.gap.now.terms in
    let s0 = sized c.lesser.result (int_min (part_down e 0) (part_down e 6)) (c.lesser.ensures.value ∙ sym (ap (λ (z : ℤ). int_min z (part_down e 6)) (floor_div-one (get e 0)) ∙ ap (λ (z : ℤ). int_min (get e 0) z) (floor_div-one (get e 6)))) c.lesser.ensures.within in
    let s1 = least_step c.min.result _ _ _ _ s0 (sized _ (int_min (part_down e 1) (part_down e 5)) c.lesser_part.ensures.value c.lesser_part.ensures.within) c.min.ensures.value in
    let s2 = least_step c.min-2.result _ _ _ _ s1 (sized _ (int_min (part_down e 2) (part_down e 4)) c.lesser_part-2.ensures.value c.lesser_part-2.ensures.within) c.min-2.ensures.value in
    let s3 = least_step c.min-least.result _ _ _ _ s2 (sized _ (int_min (part_down e 3) (part_down e 3)) c.lesser_part-3.ensures.value c.lesser_part-3.ensures.within) c.min-least.ensures.value in
    read_value from_zero _ _ _ s3 c.from_zero.ensures.value
    ∙ ap from_zero (least_in_pairs (part_down e 0) (part_down e 1) (part_down e 2) (part_down e 3) (part_down e 4) (part_down e 5) (part_down e 6))
