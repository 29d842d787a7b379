-- The listed boxes as a program keeps them.
use Rattle.std.specs.Prelude.{ℕ, Option}
use Rattle.cj_case.specs.Boxes.{PlainBox}
use Rattle.cj_checker.specs.declared.listed.Listed.{Listed}
use Rattle.cj_checker.specs.Tables.{box_in_table}

-- the box of an object in a slot, by a table
abbrev pub table_of : Listed → ℕ → ℕ → Option PlainBox
table_of t = box_in_table t.boxes.now t.numbers.rows
