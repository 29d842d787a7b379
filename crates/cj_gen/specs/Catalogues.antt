-- A catalogue: files of made-up objects.
use Rattle.std.specs.Prelude.{ℕ, ◌*◌, ◌-◌, List, ◌++◌, map, codes}
use Rattle.std.specs.List.{range_with_len}
use Rattle.cj_io.specs.declared.file.FileBytes.{FileBytes}
use Rattle.cj_gen.specs.Draws.{state_after}
use Rattle.cj_gen.specs.Orbits.{orbit_from}
use Rattle.cj_gen.specs.Texts.{five, oem_of}

abbrev pub file_name : ℕ → List ℕ
file_name number = codes "GEN" ++ five number ++ codes ".oem"

-- the file of the object with this number, counted from 1: each object before it has taken three draws
abbrev pub file_of : ℕ → ℕ → ℕ → FileBytes
file_of seed minutes number = record { name = file_name number; bytes = oem_of number (orbit_from (state_after seed (3 * (number - 1)))) minutes }

-- the files of so many objects over so many minutes
unfoldable pub catalogue_of : ℕ → ℕ → ℕ → List FileBytes
catalogue_of seed objects minutes = map (file_of seed minutes) (range_with_len 1 objects)
