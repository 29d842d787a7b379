-- Squares: whole numbers of nm² between which a gap shows the squared distance to lie.
use Rattle.std.specs.Prelude.{ℕ, ℤ, pos, negsuc, List, [], ◌∷◌, slice_index_or}
use Rattle.std.specs.Int.{int_min, int_max}
use Rattle.std.specs.List.{fold}
use Rattle.cj_interval.specs.Rounding.{floor_div, ceil_div}
use Rattle.cj_bezier.specs.Gaps.{PlainGap}
use Rattle.cj_bezier.specs.Verdicts.{choose6}

-- a whole number, 0 where it is negative
abbrev pub from_zero : ℤ → ℕ
from_zero (pos n) = n
from_zero (negsuc n) = 0

-- an end divided by C(6,k), rounded down
abbrev pub part_down : List ℤ → ℕ → ℤ
part_down ends k = floor_div (slice_index_or ends k (pos 0)) (choose6 k)

-- an end divided by C(6,k), rounded up
abbrev pub part_up : List ℤ → ℕ → ℤ
part_up ends k = ceil_div (slice_index_or ends k (pos 0)) (choose6 k)

-- the least of the seven lower ends, each divided by C(6,k) and rounded down
unfoldable pub least_part : List ℤ → ℤ
least_part ends = fold int_min (part_down ends 0) (part_down ends 1 ∷ part_down ends 2 ∷ part_down ends 3 ∷ part_down ends 4 ∷ part_down ends 5 ∷ part_down ends 6 ∷ [])

-- the greatest of the seven upper ends, each divided by C(6,k) and rounded up
unfoldable pub greatest_part : List ℤ → ℤ
greatest_part ends = fold int_max (part_up ends 0) (part_up ends 1 ∷ part_up ends 2 ∷ part_up ends 3 ∷ part_up ends 4 ∷ part_up ends 5 ∷ part_up ends 6 ∷ [])

-- a whole number that the squared distance is not below
abbrev pub least_square : PlainGap → ℕ
least_square g = from_zero (least_part g.low)

-- a whole number that the squared distance does not exceed
abbrev pub greatest_square : PlainGap → ℕ
greatest_square g = from_zero (greatest_part g.high)
