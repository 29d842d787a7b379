use Rattle.std.proofs.Common.{ℕ, List, ap, sym, ◌∙◌, slice_index_or}
use Rattle.std.specs.Prelude.{ℤ, pos}
use Rattle.std.specs.Int.{int_max}
use Rattle.cj_bezier.specs.Hulls.{highs}
use Rattle.cj_bezier.specs.Squares.{from_zero, part_up, greatest_part}
use Rattle.cj_bezier.proofs.PartLemmas.{greatest_step, sized, read_sized, read_value, ceil_div-one, greatest_in_pairs}
use Rattle.cj_bezier.proofs.squares.greatest_square.Goals as goal

abbrev get : List ℤ → ℕ → ℤ
get e k = slice_index_or e k (pos 0)

pub from_zero-requires : goal.from_zero-requires
from_zero-requires c =
    let e = highs c.args.gap.now.terms in
    let s0 = sized c.greater.result (int_max (part_up e 0) (part_up e 6)) (c.greater.ensures.value ∙ sym (ap (λ (z : ℤ). int_max z (part_up e 6)) (sym (ceil_div-one (get e 0))) ∙ ap (λ (z : ℤ). int_max (get e 0) z) (sym (ceil_div-one (get e 6))))) c.greater.ensures.within in
    let s1 = greatest_step c.max.result _ _ _ _ s0 (sized _ (int_max (part_up e 1) (part_up e 5)) c.greater_part.ensures.value c.greater_part.ensures.within) c.max.ensures.value in
    let s2 = greatest_step c.max-2.result _ _ _ _ s1 (sized _ (int_max (part_up e 2) (part_up e 4)) c.greater_part-2.ensures.value c.greater_part-2.ensures.within) c.max-2.ensures.value in
    let s3 = greatest_step c.max-greatest.result _ _ _ _ s2 (sized _ (int_max (part_up e 3) (part_up e 3)) c.greater_part-3.ensures.value c.greater_part-3.ensures.within) c.max-greatest.ensures.value in
    read_sized _ _ s3

pub returns-clause-value : goal.returns-clause-value
unfolding greatest_part
returns-clause-value c =
    let e = highs c.args.gap.now.terms in
    let s0 = sized c.greater.result (int_max (part_up e 0) (part_up e 6)) (c.greater.ensures.value ∙ sym (ap (λ (z : ℤ). int_max z (part_up e 6)) (sym (ceil_div-one (get e 0))) ∙ ap (λ (z : ℤ). int_max (get e 0) z) (sym (ceil_div-one (get e 6))))) c.greater.ensures.within in
    let s1 = greatest_step c.max.result _ _ _ _ s0 (sized _ (int_max (part_up e 1) (part_up e 5)) c.greater_part.ensures.value c.greater_part.ensures.within) c.max.ensures.value in
    let s2 = greatest_step c.max-2.result _ _ _ _ s1 (sized _ (int_max (part_up e 2) (part_up e 4)) c.greater_part-2.ensures.value c.greater_part-2.ensures.within) c.max-2.ensures.value in
    let s3 = greatest_step c.max-greatest.result _ _ _ _ s2 (sized _ (int_max (part_up e 3) (part_up e 3)) c.greater_part-3.ensures.value c.greater_part-3.ensures.within) c.max-greatest.ensures.value in
    read_value from_zero _ _ _ s3 c.from_zero.ensures.value
    ∙ ap from_zero (greatest_in_pairs (part_up e 0) (part_up e 1) (part_up e 2) (part_up e 3) (part_up e 4) (part_up e 5) (part_up e 6))
