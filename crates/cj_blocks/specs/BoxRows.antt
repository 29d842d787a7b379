-- The boxes of objects by slots, a row for each object, and the smallest box round several.
use Rattle.std.specs.Prelude.{ℕ, List, [], ◌∷◌, Option, Some, None, option_and_then}
use Rattle.std.specs.List.{fold}
use Rattle.cj_case.specs.Boxes.{PlainBox}
use Rattle.cj_case.specs.Tables.{value_at}
use Rattle.cj_bezier.specs.SlotBoxes.{round_two}

-- the box of an object in a slot, where it has one
abbrev pub box_at : List (List (Option PlainBox)) → ℕ → ℕ → Option PlainBox
box_at rows object slot = option_and_then (λ box. box) (value_at rows object slot)

-- the smallest box round two, where both are there
abbrev pub round_both : Option PlainBox → Option PlainBox → Option PlainBox
round_both None b = None
round_both (Some a) None = None
round_both (Some a) (Some b) = Some (round_two a b)

-- the smallest box round all of a list, where there are some and each is there
unfoldable pub round_all : List (Option PlainBox) → Option PlainBox
round_all [] = None
round_all (b ∷ bs) = fold round_both b bs
