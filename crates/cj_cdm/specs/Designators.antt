-- International designators.
use Rattle.std.specs.Prelude.{ℕ, Bool, ◌&&◌, ◌==◌, nat_le, if◌then◌else◌, List, length, take, drop, slice_index, codes}
use Rattle.std.specs.Char.{is_ascii_digit, is_ascii_uppercase}
use Rattle.std.specs.List.{list_all}

-- the piece of a launch: one to three letters
abbrev pub is_launch_piece : List ℕ → Bool
is_launch_piece text = nat_le 1 (length text) && nat_le (length text) 3 && list_all is_ascii_uppercase text

-- the year of a launch, its number in that year, and the piece: YYYY-NNNP
unfoldable pub is_designator : List ℕ → Bool
is_designator text =
    nat_le 9 (length text) && list_all is_ascii_digit (take 4 text) && (slice_index text 4 == 45)
    && list_all is_ascii_digit (take 3 (drop 5 text)) && is_launch_piece (drop 8 text)

-- the international designator of an object with this id
unfoldable pub designator_of : List ℕ → List ℕ
designator_of id = if is_designator id then id else codes "UNKNOWN"
