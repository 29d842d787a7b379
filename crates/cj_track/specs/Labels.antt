-- Labels: names of files and of objects.
use Rattle.std.specs.Prelude.{ℕ, ◌-◌, Bool, ◌&&◌, not, ◌==◌, nat_le, List, length, slice_index_or}
use Rattle.std.specs.List.{list_all}

-- a printable byte of ASCII, the space among them
abbrev pub is_visible : ℕ → Bool
is_visible b = nat_le 32 b && nat_le b 126

-- a file's name: 1 to 200 such bytes
unfoldable pub is_file_name : List ℕ → Bool
is_file_name text = nat_le 1 (length text) && nat_le (length text) 200 && list_all is_visible text

-- one or more such bytes, with no space at the ends
unfoldable pub is_label : List ℕ → Bool
is_label text =
    nat_le 1 (length text) && list_all is_visible text
    && not (slice_index_or text 0 32 == 32) && not (slice_index_or text (length text - 1) 32 == 32)
